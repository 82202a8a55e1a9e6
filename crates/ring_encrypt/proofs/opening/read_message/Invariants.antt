use Rattle.std.proofs.Common.{◌≡◌, ℕ, ◌+◌, ◌*◌, ◌<◌, length, get_or}
use Rattle.ring_encrypt.specs.Opening.{number_of_bits, opened_bit}
use Rattle.ring_encrypt.proofs.opening.read_message.Given as goal

-- the bytes so far are read
abbrev pub invariant-loop-j : goal.invariant-loop-j
invariant-loop-j l = record {
  long : length l.m ≡ 32;
  read : (k : ℕ) → k < l.j → get_or l.m k 0 ≡ number_of_bits (λ i. opened_bit l.v l.us (8 * k + i)) 8;
}
