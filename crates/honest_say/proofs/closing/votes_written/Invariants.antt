use Rattle.std.proofs.Common.{◌≡◌, ◌-◌, take}
use Rattle.go_nogo.specs.Rows.{posts_at, written}
use Rattle.honest_say.specs.Pasts.{posts_before}
use Rattle.honest_say.proofs.closing.votes_written.Given as goal

-- the votes of the members so far
abbrev pub invariant-loop-place : goal.invariant-loop-place
invariant-loop-place l = l.votes.items ≡ written (take l.place (posts_at l.log.shape (posts_before l.log l.stage) (l.stage - 1)))
