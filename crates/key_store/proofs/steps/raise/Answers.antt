use Rattle.std.proofs.Common.{refl, arith}
use Rattle.key_store.proofs.Files.{rest_mirrors, tears_told}
use Rattle.key_store.proofs.Midway.{run_closing, run_opening, run_writing}
use Rattle.key_store.proofs.TornSlot.{slot_closing, slot_opening, slot_writing}
use Rattle.key_store.proofs.steps.raise.Goals as goal

pub returns-in-Failed-clause-moments : goal.returns-in-Failed-clause-moments
returns-in-Failed-clause-moments g c = λ content rise.
    run_closing content c.args.image.now c.args.at c.args.round c.args.next c.told-image (omega (arith, c.ranges.round.fits)) rise
    g.D.Disk.may_leave g.D.Disk.moment g.D.Disk.left_since
    _ c.args.disk.now c.close_gate.new.disk (rest_mirrors _ _ _ c.requires.current) c.close_gate.ensures.moments

pub returns-in-Failed-write_slot-clause-moments : goal.returns-in-Failed-write_slot-clause-moments
returns-in-Failed-write_slot-clause-moments g c = λ content rise.
    let mirrors = rest_mirrors _ _ _ c.requires.current in
    let closing = run_closing content c.args.image.now c.args.at c.args.round c.args.next c.told-image (omega (arith, c.ranges.round.fits))
    rise g.D.Disk.may_leave g.D.Disk.moment g.D.Disk.left_since
    (g.D.Disk.file c.args.disk.now) c.args.disk.now c.close_gate.new.disk mirrors c.close_gate.ensures.moments in
    run_writing content c.args.image.now c.args.at c.args.round c.args.next c.told-image (omega (arith, c.ranges.round.fits)) rise
    g.D.Disk.may_leave g.D.Disk.moment g.D.Disk.left_since
    _ (g.D.Disk.file c.close_gate.new.disk) c.args.disk.now c.close_gate.new.disk c.write_slot.new.disk mirrors
    (c.in-Done.ensures.done refl) closing c.write_slot.ensures.moments

pub returns-in-Done-write_slot-clause-moments : goal.returns-in-Done-write_slot-clause-moments
returns-in-Done-write_slot-clause-moments g c = λ content rise.
    let mirrors = rest_mirrors _ _ _ c.requires.current in
    let closing = run_closing content c.args.image.now c.args.at c.args.round c.args.next c.told-image (omega (arith, c.ranges.round.fits))
    rise g.D.Disk.may_leave g.D.Disk.moment g.D.Disk.left_since
    (g.D.Disk.file c.args.disk.now) c.args.disk.now c.close_gate.new.disk mirrors c.close_gate.ensures.moments in
    let writing = run_writing content c.args.image.now c.args.at c.args.round c.args.next c.told-image (omega (arith, c.ranges.round.fits))
    rise g.D.Disk.may_leave g.D.Disk.moment g.D.Disk.left_since
    (g.D.Disk.file c.args.disk.now) (g.D.Disk.file c.close_gate.new.disk) c.args.disk.now c.close_gate.new.disk c.write_slot.new.disk
    mirrors (c.in-Done.ensures.done refl) closing c.write_slot.ensures.moments in
    run_opening content c.args.image.now c.args.at c.args.round c.args.next c.told-image (omega (arith, c.ranges.round.fits)) rise
    g.D.Disk.may_leave g.D.Disk.moment g.D.Disk.left_since
    _ (g.D.Disk.file c.close_gate.new.disk) (g.D.Disk.file c.write_slot.new.disk) c.args.disk.now c.write_slot.new.disk c.open_gate.new.disk
    mirrors (c.in-Done.ensures.done refl)
    (c.in-Done-write_slot.ensures.done refl) writing c.open_gate.ensures.moments

pub returns-in-Failed-clause-told : goal.returns-in-Failed-clause-told
returns-in-Failed-clause-told g c = λ some. tears_told _ _ _ _ c.close_gate.ensures.torn some

pub returns-in-Failed-write_slot-clause-told : goal.returns-in-Failed-write_slot-clause-told
returns-in-Failed-write_slot-clause-told g c = λ some.
    tears_told _ _ _ _ c.write_slot.ensures.torn (tears_told _ _ _ _ c.close_gate.ensures.torn some)

pub returns-in-Done-write_slot-clause-told : goal.returns-in-Done-write_slot-clause-told
returns-in-Done-write_slot-clause-told g c = λ some.
    tears_told _ _ _ _ c.open_gate.ensures.torn (tears_told _ _ _ _ c.write_slot.ensures.torn
    (tears_told _ _ _ _ c.close_gate.ensures.torn some))

pub returns-in-Failed-clause-beside_slot : goal.returns-in-Failed-clause-beside_slot
returns-in-Failed-clause-beside_slot g c =
    slot_closing c.args.image.now c.args.at c.args.round c.args.next c.told-image c.requires.slot g.D.Disk.may_leave g.D.Disk.moment
    g.D.Disk.left_since
    _ c.args.disk.now c.close_gate.new.disk c.close_gate.ensures.moments

pub returns-in-Failed-write_slot-clause-beside_slot : goal.returns-in-Failed-write_slot-clause-beside_slot
returns-in-Failed-write_slot-clause-beside_slot g c =
    let closing = slot_closing c.args.image.now c.args.at c.args.round c.args.next c.told-image c.requires.slot g.D.Disk.may_leave
    g.D.Disk.moment g.D.Disk.left_since
    (g.D.Disk.file c.args.disk.now) c.args.disk.now c.close_gate.new.disk c.close_gate.ensures.moments in
    slot_writing c.args.image.now c.args.at c.args.round c.args.next c.told-image c.requires.slot g.D.Disk.may_leave g.D.Disk.moment
    g.D.Disk.left_since
    _ (g.D.Disk.file c.close_gate.new.disk) c.args.disk.now c.close_gate.new.disk c.write_slot.new.disk
    (rest_mirrors _ _ _ c.requires.current)
    (c.in-Done.ensures.done refl) closing c.write_slot.ensures.moments

pub returns-in-Done-write_slot-clause-beside_slot : goal.returns-in-Done-write_slot-clause-beside_slot
returns-in-Done-write_slot-clause-beside_slot g c =
    let mirrors = rest_mirrors _ _ _ c.requires.current in
    let closing = slot_closing c.args.image.now c.args.at c.args.round c.args.next c.told-image c.requires.slot g.D.Disk.may_leave
    g.D.Disk.moment g.D.Disk.left_since
    (g.D.Disk.file c.args.disk.now) c.args.disk.now c.close_gate.new.disk c.close_gate.ensures.moments in
    let writing = slot_writing c.args.image.now c.args.at c.args.round c.args.next c.told-image c.requires.slot g.D.Disk.may_leave
    g.D.Disk.moment g.D.Disk.left_since
    (g.D.Disk.file c.args.disk.now) (g.D.Disk.file c.close_gate.new.disk) c.args.disk.now c.close_gate.new.disk c.write_slot.new.disk
    mirrors (c.in-Done.ensures.done refl) closing c.write_slot.ensures.moments in
    slot_opening c.args.image.now c.args.at c.args.round c.args.next c.told-image c.requires.slot g.D.Disk.may_leave g.D.Disk.moment
    g.D.Disk.left_since
    _ (g.D.Disk.file c.close_gate.new.disk) (g.D.Disk.file c.write_slot.new.disk) c.args.disk.now c.write_slot.new.disk c.open_gate.new.disk
    mirrors (c.in-Done.ensures.done refl)
    (c.in-Done-write_slot.ensures.done refl) writing c.open_gate.ensures.moments
