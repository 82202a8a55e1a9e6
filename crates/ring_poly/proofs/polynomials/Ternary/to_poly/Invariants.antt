use Rattle.std.proofs.Common.{◌≡◌, ℕ, ◌<◌, get_or, length}
use Rattle.ring_poly.specs.Residue.{residue}
use Rattle.ring_poly.specs.Product.{coefficient}
use Rattle.ring_poly.proofs.polynomials.Ternary.to_poly.Given as goal

-- the places below are done
abbrev pub invariant-loop-place : goal.invariant-loop-place
invariant-loop-place l = record {
  long : length l.residues ≡ 1024;
  done : (k : ℕ) → k < l.place → get_or l.residues k 0 ≡ residue (coefficient l.own k);
}
