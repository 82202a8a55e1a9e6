use Rattle.std.proofs.Common.{◌≡◌, ◌<◌, ◌≤◌, ℕ, [], true}
use Rattle.shuffle_blame.specs.Asked.{inquiry_of}
use Rattle.shuffle_blame.specs.Replay.{votes_yes}
use Rattle.shuffle_blame.proofs.votes.vote_fault.Given as goal

-- each earlier member voted yes
abbrev pub invariant-loop-member : goal.invariant-loop-member
invariant-loop-member l = (earlier : ℕ) → 1 ≤ earlier → earlier < l.member → votes_yes (inquiry_of l.fn.log l.fn.stage 0 []) earlier ≡ true
