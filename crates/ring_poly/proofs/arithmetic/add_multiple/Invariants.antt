use Rattle.std.proofs.Common.{◌≡◌, ℕ, ◌<◌, ◌≤◌, ◌+ℤ◌, pos, get_or}
use Rattle.std.proofs.Math.IntN.{◌*ℤ◌}
use Rattle.ring_poly.specs.Product.{coefficient}
use Rattle.ring_poly.proofs.arithmetic.add_multiple.Given as goal

-- the places below are done, the others are as they were
abbrev pub invariant-loop-place : goal.invariant-loop-place
invariant-loop-place l = record {
  done : (k : ℕ) → k < l.place → coefficient l.sums k ≡ coefficient l.initial.sums k +ℤ (pos (get_or l.terms k 0) *ℤ l.factor);
  left : (k : ℕ) → l.place ≤ k → coefficient l.sums k ≡ coefficient l.initial.sums k;
}
