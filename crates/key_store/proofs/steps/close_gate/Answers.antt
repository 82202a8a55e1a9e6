use Rattle.std.proofs.Common.{◌∙◌, sym, refl, arith}
use Rattle.key_store.proofs.Files.{closed_already, closed_mirrored, leaves-closed, leaves-closing, rest_mirrors, synced_rest, same_mirrors}
use Rattle.key_store.proofs.Raised.{slot_within}
use Rattle.key_store.proofs.steps.close_gate.Goals as goal

pub returns-then-image-at-eq0-clause-image : goal.returns-then-image-at-eq0-clause-image
returns-then-image-at-eq0-clause-image g c =
    let within = slot_within c.args.at 128 refl c.requires.slot in
    sym (closed_already c.args.image.now c.args.at (omega (arith, within, c.told-image)) c.if-image-at-eq0.true)

pub returns-then-image-at-eq0-clause-done : goal.returns-then-image-at-eq0-clause-done
returns-then-image-at-eq0-clause-done g c = λ done.
    let within = slot_within c.args.at 128 refl c.requires.slot in
    c.settle.ensures.kept
    ∙ closed_mirrored _ c.args.image.now c.args.at c.told-image (omega (arith, within)) (rest_mirrors _ _ _ c.requires.current)
    c.if-image-at-eq0.true

pub returns-then-image-at-eq0-clause-current : goal.returns-then-image-at-eq0-clause-current
returns-then-image-at-eq0-clause-current g c = λ done.
    synced_rest _ _ _ _ c.settle.ensures.kept (same_mirrors _ _ _ c.settle.ensures.kept (rest_mirrors _ _ _ c.requires.current))
    (c.settle.ensures.durable done)

pub returns-then-image-at-eq0-clause-moments : goal.returns-then-image-at-eq0-clause-moments
returns-then-image-at-eq0-clause-moments g c =
    leaves-closed g.D.Disk.file g.D.Disk.may_leave g.D.Disk.moment g.D.Disk.left_since g.met.D.Disk.only_now c.args.disk.now
    c.settle.new.disk
    c.args.image.now c.args.at c.requires.current c.settle.ensures.images c.settle.ensures.time

pub returns-clause-moments : goal.returns-clause-moments
returns-clause-moments g c =
    let within = slot_within c.args.at 128 refl c.requires.slot in
    leaves-closing g.D.Disk.file g.D.Disk.may_leave g.D.Disk.moment g.D.Disk.left_since g.met.D.Disk.only_now c.args.disk.now c.put.new.disk
    c.args.image.now c.args.at c.told-image (omega (arith, within)) c.if-image-at-eq0.false c.requires.current c.put.ensures.moments
