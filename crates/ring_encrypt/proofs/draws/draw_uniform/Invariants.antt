use Rattle.std.proofs.Common.{◌≡◌, ℕ, ◌%◌, ◌<◌, length, get_or}
use Rattle.ring_encrypt.specs.Draws.{word_of}
use Rattle.ring_encrypt.proofs.draws.draw_uniform.Given as goal

-- the coefficients so far are drawn
abbrev pub invariant-loop-place : goal.invariant-loop-place
invariant-loop-place l = record {
  long : length l.coefficients ≡ 1024;
  drawn : (k : ℕ) → k < l.place → get_or l.coefficients k 0 ≡ word_of l.key k % 12289;
}
