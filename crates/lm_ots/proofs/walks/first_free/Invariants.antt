use Rattle.std.proofs.Common.{ℕ, ◌≤◌, ◌<◌, slice_index}
use Rattle.lm_ots.proofs.walks.first_free.Given as goal

-- none of the lanes so far has fewer
abbrev pub invariant-loop-k : goal.invariant-loop-k
invariant-loop-k l = record {
  lane : l.free < 4;
  fewest : (k : ℕ) → k < l.k → slice_index l.left l.free ≤ slice_index l.left k;
}
