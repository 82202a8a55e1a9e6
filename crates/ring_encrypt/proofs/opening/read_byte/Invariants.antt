use Rattle.std.proofs.Common.{◌≡◌, ◌+◌, ◌*◌}
use Rattle.ring_encrypt.specs.Opening.{number_of_bits, opened_bit}
use Rattle.ring_encrypt.proofs.opening.read_byte.Given as goal

-- the bits so far make the byte so far
abbrev pub invariant-loop-i : goal.invariant-loop-i
invariant-loop-i l = l.byte ≡ number_of_bits (λ i. opened_bit l.v l.us (8 * l.j + i)) l.i
