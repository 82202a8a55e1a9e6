use Rattle.std.proofs.Common.{◌≡◌, ℕ, ◌+◌, ◌%◌, ◌^◌, ap, arith, rules}
use Rattle.rand_chacha.specs.ChaCha.{ChaCha, next_word, key_of}
use Rattle.ring_encrypt.specs.Draws.{word_of}
use Rattle.ring_encrypt.proofs.Filling.{fill_more}
use Rattle.ring_encrypt.proofs.draws.draw_words.Goals as goal

pub loop-i-preserved : goal.loop-i-preserved
loop-i-preserved g c =
    let i = c.loop-i.i in
    let at : ChaCha = record { key = key_of c.args.key.now; stream = 0; word_pos = c.args.place + i } in
    let step : (c.next_word.result, c.next_word.new.self) ≡ next_word 10 at = rw c.loop-i.invariant.generator at c.next_word.ensures in
    let next : (c.args.place + i + 1) % 2 ^ 68 ≡ c.args.place + (i + 1) = omega arith in
    record {
      long = search rules;
      generator = rw next at (ap (λ (p : ℕ × ChaCha). p.1) step);
      drawn = fill_more (λ k. word_of c.args.key.now (c.args.place + k)) c.loop-i.words i c.next_word.result 0 (omega arith)
          (ap (λ (p : ℕ × ChaCha). p.0) step) c.loop-i.invariant.drawn;
    }
