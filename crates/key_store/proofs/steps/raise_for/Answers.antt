use Rattle.std.proofs.Common.{subst, ℕ, arith}
use Rattle.crash_disk.specs.Disk.{LeavesOf}
use Rattle.key_store.specs.Crashes.{IsMidway}
use Rattle.key_store.proofs.Begun.{begun_paired, half_raised, place_is, rises, says_begun}
use Rattle.key_store.proofs.Calls.{raise_used}
use Rattle.key_store.proofs.steps.raise_for.Goals as goal

pub returns-clause-says : goal.returns-clause-says
returns-clause-says g c = λ done.
    says_begun c.args.content.now c.args.image.now c.chosen-at.result c.leaves.result c.args.round c.args.leaves c.leaves.ensures
    c.chosen-at.ensures.value c.requires.read c.requires.later c.requires.enough c.raise.new.image c.told-image c.chosen-at.ensures.slot
    (omega (arith, c.ranges.round.fits)) (c.raise.ensures.image done)

pub returns-clause-paired : goal.returns-clause-paired
returns-clause-paired g c = λ done some paired.
    begun_paired c.args.content.now c.args.image.now c.chosen-at.result c.leaves.result c.args.round c.args.leaves c.leaves.ensures
    c.chosen-at.ensures.value c.requires.read c.requires.later c.requires.enough c.raise.new.image c.told-image
    (omega (arith, c.ranges.round.fits)) (c.raise.ensures.image done) some paired

pub returns-clause-moments : goal.returns-clause-moments
returns-clause-moments g c = λ some paired.
    subst (λ (at : ℕ). LeavesOf g.D.Disk.moment g.D.Disk.left_since (g.D.Disk.file c.args.disk.now) c.args.disk.now c.raise.new.disk
    (IsMidway c.args.content.now at))
    (place_is c.args.content.now c.args.image.now c.chosen-at.result c.leaves.result c.args.round c.args.leaves c.leaves.ensures
    c.chosen-at.ensures.value c.requires.read c.requires.later c.requires.enough)
    (c.raise.ensures.moments c.args.content.now (rises c.args.content.now c.args.image.now c.chosen-at.result c.leaves.result c.args.round
    c.args.leaves c.leaves.ensures c.chosen-at.ensures.value c.requires.read c.requires.later c.requires.enough some paired))

pub returns-clause-used : goal.returns-clause-used
returns-clause-used g c = λ some.
    raise_used g.D.Disk.file g.D.Disk.may_leave g.D.Disk.moment g.D.Disk.left_since g.met.D.Disk.read_is_image
    g.met.D.Disk.counts_now g.met.D.Disk.only_now c.args.disk.now c.raise.new.disk c.args.image.now c.raise.new.image c.chosen-at.result
    c.args.content.now c.args.round c.args.leaves c.raise.result c.requires.current c.requires.read c.requires.later c.raise.ensures.told
    (λ paired. c.raise.ensures.moments c.args.content.now (rises c.args.content.now c.args.image.now c.chosen-at.result c.leaves.result
    c.args.round c.args.leaves c.leaves.ensures c.chosen-at.ensures.value c.requires.read c.requires.later c.requires.enough some paired))
    c.raise.ensures.current (λ done. returns-clause-says g c done) (λ done paired. returns-clause-paired g c done some paired)

pub returns-clause-torn : goal.returns-clause-torn
returns-clause-torn g c =
    half_raised c.args.content.now c.args.image.now c.chosen-at.result c.leaves.result c.args.round c.args.leaves c.leaves.ensures
    c.chosen-at.ensures.value c.requires.read c.requires.later c.requires.enough g.D.Disk.file g.D.Disk.may_leave g.D.Disk.moment
    g.D.Disk.left_since g.met.D.Disk.read_is_image g.met.D.Disk.counts_now c.args.disk.now c.raise.new.disk c.requires.current
    c.raise.ensures.told c.raise.ensures.beside_slot (λ rise. c.raise.ensures.moments c.args.content.now rise)
