use Rattle.std.proofs.Common.{◌≡◌, ℕ, ◌<◌, get_or, length}
use Rattle.ring_poly.specs.Residue.{residue}
use Rattle.ring_poly.specs.Product.{coefficient}
use Rattle.ring_poly.proofs.arithmetic.reduced.Given as goal

-- the places below are reduced
abbrev pub invariant-loop-place : goal.invariant-loop-place
invariant-loop-place l = record {
  long : length l.coefficients ≡ 1024;
  done : (k : ℕ) → k < l.place → get_or l.coefficients k 0 ≡ residue (coefficient l.sums k);
  small : (k : ℕ) → k < l.place → get_or l.coefficients k 0 < 12289;
}
