use Rattle.std.proofs.Common.{Some, IfSome, refl, subst, ap, ◌∙◌}
use Rattle.std.specs.Prelude.{IsSome}
use Rattle.crash_disk.specs.Disk.{LeavesOf}
use Rattle.key_store.specs.Crashes.{IsMidway}
use Rattle.key_store.specs.History.{Handed, IsCall}
use Rattle.key_store.specs.Store.{KeyState}
use Rattle.key_store.proofs.Keys.{as_seen, handed_is, stands_begun}
use Rattle.key_store.proofs.Begun.{still_midway}
use Rattle.key_store.proofs.store.KeyFile.begin_round.Goals as goal

pub returns-in_err-content-clause-moments : goal.returns-in_err-content-clause-moments
returns-in_err-content-clause-moments g c = λ works some.
    still_midway g.D.Disk.file g.D.Disk.may_leave g.D.Disk.moment g.D.Disk.left_since g.met.D.Disk.only_now c.args.disk.now
    c.args.self.now.image _ (c.requires works)

pub returns-in-Err-clause-moments : goal.returns-in-Err-clause-moments
returns-in-Err-clause-moments g c = λ works some.
    still_midway g.D.Disk.file g.D.Disk.may_leave g.D.Disk.moment g.D.Disk.left_since g.met.D.Disk.only_now c.args.disk.now
    c.args.self.now.image _ (c.requires works)

pub returns-in-Done-clause-stands : goal.returns-in-Done-clause-stands
returns-in-Done-clause-stands g c =
    stands_begun c.args.self.now c.self.inside.image c.raise_for.new.image c.self.inside.secret c.reserve.new.self c.self.inside.failed
    c.in_ok-content.content c.args.round c.args.leaves c.self.view_is c.in_ok-content.ensures.raisable c.in-Ok.ensures.risen
    (c.in-Done.ensures.says refl)

pub returns-in-Done-clause-moments : goal.returns-in-Done-clause-moments
returns-in-Done-clause-moments g c = λ works some.
    as_seen (λ content at. LeavesOf g.D.Disk.moment g.D.Disk.left_since (g.D.Disk.file c.args.disk.now) c.args.disk.now
    c.raise_for.new.disk (IsMidway content at))
    c.args.self.now c.self.inside.image c.self.inside.secret c.self.inside.failed c.in_ok-content.content c.args.round c.args.leaves
    c.self.view_is c.in_ok-content.ensures.raisable (c.raise_for.ensures.moments some)

pub returns-in-Failed-clause-moments : goal.returns-in-Failed-clause-moments
returns-in-Failed-clause-moments g c = λ works some.
    as_seen (λ content at. LeavesOf g.D.Disk.moment g.D.Disk.left_since (g.D.Disk.file c.args.disk.now) c.args.disk.now
    c.raise_for.new.disk (IsMidway content at))
    c.args.self.now c.self.inside.image c.self.inside.secret c.self.inside.failed c.in_ok-content.content c.args.round c.args.leaves
    c.self.view_is c.in_ok-content.ensures.raisable (c.raise_for.ensures.moments some)

pub returns-in-Done-clause-used : goal.returns-in-Done-clause-used
returns-in-Done-clause-used g c = λ some.
    subst (λ (h : Handed). IfSome (g.D.Disk.file c.args.disk.now) (λ _. IsSome (g.D.Disk.file c.raise_for.new.disk)
    × IsCall g.D.Disk.may_leave g.D.Disk.moment g.D.Disk.left_since c.args.disk.now c.raise_for.new.disk (Some h)))
    (handed_is c.self.inside.image c.self.inside.secret c.self.inside.failed c.args.self.now c.in_ok-content.content c.in-Ok.run'
    c.args.round c.args.leaves (c.self.invariant (ap (λ (k : KeyState). k.failed) c.self.view_is ∙ c.in_ok-content.ensures.raisable.works))
    c.self.view_is c.in_ok-content.ensures.raisable c.in-Ok.ensures.reserved)
    (c.in-Done.ensures.used some)
