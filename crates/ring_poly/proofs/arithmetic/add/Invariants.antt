use Rattle.std.proofs.Common.{◌≡◌, ℕ, ◌<◌, ◌+◌, ◌%◌, get_or, length}
use Rattle.ring_poly.proofs.arithmetic.add.Given as goal

-- the places below are done
abbrev pub invariant-loop-place : goal.invariant-loop-place
invariant-loop-place l = record {
  long : length l.sum ≡ 1024;
  done : (k : ℕ) → k < l.place → get_or l.sum k 0 ≡ (get_or l.a k 0 + get_or l.b k 0) % 12289;
}
