use Rattle.std.proofs.Common.{◌≡◌, ℕ, ◌<◌, [], length, slice_index_or}
use Rattle.std.specs.Fn.{iterate}
use Rattle.lm_ots.specs.Walks.{next_string}
use Rattle.lm_ots.proofs.step_strings.step_four.Given as goal

-- each string is as many steps further
abbrev pub invariant-loop-step : goal.invariant-loop-step
invariant-loop-step l = record {
  size : length l.strings ≡ 4;
  further : (k : ℕ) → k < 4 → slice_index_or l.strings k [] ≡ iterate next_string l.step (slice_index_or l.fn.strings k []);
}
