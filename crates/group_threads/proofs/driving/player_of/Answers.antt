use Rattle.std.proofs.Common.{◌≡◌, ◌∙◌, subst}
use Rattle.lms_tree.specs.States.{RunState}
use Rattle.group_spec.specs.World.{Seat}
use Rattle.group_threads.specs.Given.{seat_of}
use Rattle.group_threads.specs.Playing.{Plays}
use Rattle.group_threads.proofs.Members.{ok-so}
use Rattle.group_threads.proofs.Groups.{same-seat}
use Rattle.group_threads.proofs.driving.player_of.Goals as goal

pub returns : goal.returns
returns c = ok-so c.start.result _ _ c.start.ensures (λ player plays.
    let copy = c.in_ok-copy.copy in
    let e = c.in_ok-copy.ensures in
    subst (λ (s : Seat). Plays player s 0)
    (same-seat copy c.args.config.now c.args.leaves c.args.spare c.args.fault e.roster e.number e.round e.fresh e.message)
    (subst (λ (r : RunState). Plays player (seat_of copy c.args.leaves r c.args.fault) 0) c.into_run-2.ensures
    (subst (λ (r : RunState). Plays player (seat_of copy r c.into_run-2.result c.args.fault) 0) c.into_run.ensures plays)))
