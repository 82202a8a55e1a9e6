use Rattle.std.proofs.Common.{◌≡◌, ℕ, ◌<◌, length}
use Rattle.lm_ots.specs.OneTime.{coef, digit_bits}
use Rattle.lm_ots.specs.Walks.{walk_at}
use Rattle.lm_ots.proofs.one_time_keys.walks_to_digits.Given as goal

-- the digits so far
abbrev pub invariant-loop-i : goal.invariant-loop-i
invariant-loop-i l = record {
  size : length l.walks ≡ 268;
  digits : (k : ℕ) → k < l.i → (walk_at l.walks k).end ≡ coef l.signed k (digit_bits l.width);
}
