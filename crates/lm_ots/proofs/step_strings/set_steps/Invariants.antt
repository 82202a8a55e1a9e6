use Rattle.std.proofs.Common.{◌≡◌, ℕ, ◌≤◌, ◌<◌, [], length, slice_index_or}
use Rattle.lm_ots.specs.Walks.{with_digest}
use Rattle.lm_ots.proofs.step_strings.set_steps.Given as goal

-- the strings before k have their digests, the others are as they were
abbrev pub invariant-loop-k : goal.invariant-loop-k
invariant-loop-k l = record {
  size : length l.strings ≡ 4;
  done : (j : ℕ) → j < l.k → slice_index_or l.strings j [] ≡ with_digest (slice_index_or l.fn.strings j []) (slice_index_or l.digests j []);
  others : (j : ℕ) → l.k ≤ j → slice_index_or l.strings j [] ≡ slice_index_or l.fn.strings j [];
}
