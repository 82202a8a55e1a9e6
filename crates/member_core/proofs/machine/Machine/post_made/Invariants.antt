use Rattle.std.proofs.Common.{◌≡◌}
use Rattle.std.specs.List.{slice_get}
use Rattle.member_core.specs.Membership.{holdings_of, posts_made}
use Rattle.member_core.proofs.MadePosts.{posts_from}
use Rattle.member_core.proofs.machine.Machine.post_made.Given as goal

abbrev pub invariant-loop-stage : goal.invariant-loop-stage
invariant-loop-stage l =
    slice_get (posts_from l.self.log l.self.seat.number l.self.stray l.stage) l.left ≡ slice_get (posts_made (holdings_of l.self)) l.place
