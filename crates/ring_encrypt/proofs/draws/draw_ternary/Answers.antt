use Rattle.std.proofs.Common.{ℕ, ◌+◌, ◌/◌, ◌%◌, ap, ◌∙◌, arith, pos, to_z, of_z, w8, rules}
use Rattle.std.proofs.lemmas.List.Elements.{All-from_get_or}
use Rattle.ring_poly.specs.Product.{IsTrit}
use Rattle.ring_poly.proofs.Places.{by_place_is}
use Rattle.ring_poly.proofs.Words.{read_back_byte}
use Rattle.ring_encrypt.specs.Draws.{word_of, trit_of, ternary}
use Rattle.ring_encrypt.proofs.Filling.{fill_more}
use Rattle.ring_encrypt.proofs.Trits.{trit_of_is_trit}
use Rattle.ring_encrypt.proofs.draws.draw_ternary.Goals as goal

pub loop-c-preserved : goal.loop-c-preserved
loop-c-preserved c =
    let k = c.loop-c.c in
    let word = c.draw_words-words.ensures.words (k / 16) (omega (arith, c.draw_words-words.ensures.length)) in
    let kept = read_back_byte c.trit.result (omega (arith, c.trit.ensures.trit)) in
    record {
      long = search rules;
      drawn = fill_more (λ k. trit_of (word_of c.args.key.now (c.args.place + k / 16)) (k % 16)) c.loop-c.coefficients k
          (to_z w8 (of_z w8 c.trit.result)) (pos 0) (omega arith)
          (kept ∙ c.trit.ensures.value ∙ ap (λ (n : ℕ). trit_of n (k % 16)) word) c.loop-c.invariant.drawn;
    }

pub of-requires : goal.of-requires
of-requires c = All-from_get_or (λ x. IsTrit x) c.loop-c.coefficients (pos 0)
    (λ k h. rw (c.loop-c.invariant.drawn k (omega arith)) (trit_of_is_trit (word_of c.args.key.now (c.args.place + k / 16)) (k % 16)))

pub returns : goal.returns
unfolding ternary
returns c = rw c.of.ensures.value (by_place_is (λ k. trit_of (word_of c.args.key.now (c.args.place + k / 16)) (k % 16))
    c.loop-c.coefficients (pos 0) (omega arith) (λ k h. c.loop-c.invariant.drawn k (omega arith)))
