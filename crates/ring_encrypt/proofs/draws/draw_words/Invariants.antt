use Rattle.std.proofs.Common.{◌≡◌, ℕ, ◌+◌, ◌<◌, length, get_or}
use Rattle.rand_chacha.specs.ChaCha.{key_of}
use Rattle.ring_encrypt.specs.Draws.{word_of}
use Rattle.ring_encrypt.proofs.draws.draw_words.Given as goal

-- the generator stands at the word after those that are drawn
abbrev pub invariant-loop-i : goal.invariant-loop-i
invariant-loop-i g l = record {
  long : length l.words ≡ g.row.COUNT;
  generator : l.generator ≡ record { key = key_of l.key; stream = 0; word_pos = l.place + l.i };
  drawn : (k : ℕ) → k < l.i → get_or l.words k 0 ≡ word_of l.key (l.place + k);
}
