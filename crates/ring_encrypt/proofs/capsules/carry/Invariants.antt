use Rattle.std.proofs.Common.{◌≡◌, ℕ, ◌*◌, ◌<◌, length, get_or, pos, ◌+ℤ◌}
use Rattle.ring_poly.specs.Residue.{residue}
use Rattle.ring_poly.specs.Product.{coefficient}
use Rattle.ring_encrypt.specs.Capsule.{message_bit}
use Rattle.ring_encrypt.proofs.capsules.carry.Given as goal

-- the coefficients so far carry their bits
abbrev pub invariant-loop-c : goal.invariant-loop-c
invariant-loop-c l = record {
  long : length l.v ≡ 256;
  carried : (k : ℕ) → k < l.c → get_or l.v k 0 ≡ residue (pos (get_or l.product k 0) +ℤ coefficient l.error k +ℤ pos
      (6144 * message_bit l.m k));
}
