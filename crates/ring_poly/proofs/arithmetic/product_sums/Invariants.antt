use Rattle.std.proofs.Common.{◌≡◌, ℕ, ◌<◌, length, map, pos}
use Rattle.ring_poly.specs.Product.{coefficient}
use Rattle.ring_poly.proofs.Rows.{row_sum}
use Rattle.ring_poly.proofs.arithmetic.product_sums.Given as goal

-- the rows below are added
abbrev pub invariant-loop-row : goal.invariant-loop-row
invariant-loop-row l = record {
  long : length l.sums ≡ 1024;
  added : (k : ℕ) → k < 1024 → coefficient l.sums k ≡ row_sum (map pos l.a) l.b l.row k;
}
