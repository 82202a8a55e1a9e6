use Rattle.std.proofs.Common.{◌≡◌, ℕ, ◌+◌, ◌/◌, ◌%◌, ◌<◌, length, get_or, pos}
use Rattle.ring_encrypt.specs.Draws.{word_of, trit_of}
use Rattle.ring_encrypt.proofs.draws.draw_ternary.Given as goal

-- the coefficients so far are drawn
abbrev pub invariant-loop-c : goal.invariant-loop-c
invariant-loop-c l = record {
  long : length l.coefficients ≡ 1024;
  drawn : (k : ℕ) → k < l.c → get_or l.coefficients k (pos 0) ≡ trit_of (word_of l.key (l.place + k / 16)) (k % 16);
}
