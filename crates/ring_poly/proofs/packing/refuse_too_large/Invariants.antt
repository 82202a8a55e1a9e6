use Rattle.std.proofs.Common.{ℕ, ◌<◌, get_or}
use Rattle.ring_poly.proofs.packing.refuse_too_large.Given as goal

-- the numbers below are small
abbrev pub invariant-loop-place : goal.invariant-loop-place
invariant-loop-place l = (k : ℕ) → k < l.place → get_or l.coefficients k 0 < 12289
