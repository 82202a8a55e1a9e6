use Rattle.std.proofs.Common.{◌≡◌, take, Some}
use Rattle.stage_log.specs.Log.{contents_in}
use Rattle.stage_log.specs.Table.{posts_in}
use Rattle.go_nogo.specs.Votes.{votes_of}
use Rattle.go_nogo.proofs.votes.votes_of.Given as goal

-- the votes of the members so far
abbrev pub invariant-loop-place : goal.invariant-loop-place
invariant-loop-place l = votes_of l.log.shape (contents_in (take l.place (posts_in l.log l.stage))) ≡ Some l.votes.items
