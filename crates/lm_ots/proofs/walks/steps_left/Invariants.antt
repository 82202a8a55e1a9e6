use Rattle.std.proofs.Common.{◌≡◌, ℕ, ◌<◌, length, slice_index}
use Rattle.lm_ots.specs.Walks.{steps_left, walk_at}
use Rattle.lm_ots.proofs.walks.steps_left.Given as goal

-- the steps of the lanes so far
abbrev pub invariant-loop-k : goal.invariant-loop-k
invariant-loop-k l = record {
  size : length l.left ≡ 4;
  counted : (k : ℕ) → k < l.k → slice_index l.left k ≡ steps_left (walk_at l.walks (slice_index l.lanes k));
}
