use Rattle.std.proofs.Common.{◌≡◌, ℕ, ◌%◌, ◌<◌, get_or, ap, arith, rules, zero-add}
use Rattle.std.proofs.lemmas.List.Elements.{All-from_get_or}
use Rattle.ring_poly.proofs.Places.{by_place_is}
use Rattle.ring_encrypt.specs.Draws.{word_of, uniform}
use Rattle.ring_encrypt.proofs.Filling.{fill_more}
use Rattle.ring_encrypt.proofs.draws.draw_uniform.Goals as goal

pub loop-place-preserved : goal.loop-place-preserved
loop-place-preserved c =
    let place = c.loop-place.place in
    let word : get_or c.draw_words-words.result place 0 ≡ word_of c.args.key.now place = rw zero-add at
    (c.draw_words-words.ensures.words place (omega (arith, c.draw_words-words.ensures.length))) in
    record {
      long = search rules;
      drawn = fill_more (λ k. word_of c.args.key.now k % 12289) c.loop-place.coefficients place
          (get_or c.draw_words-words.result place 0 % 12289) 0 (omega arith)
          (ap (λ (n : ℕ). n % 12289) word) c.loop-place.invariant.drawn;
    }

pub of-requires : goal.of-requires
of-requires c = All-from_get_or (λ x. x < 12289) c.loop-place.coefficients 0
    (λ k h. let is = c.loop-place.invariant.drawn k (omega arith) in omega arith)

pub returns : goal.returns
unfolding uniform
returns c = rw c.of.ensures.value (by_place_is (λ k. word_of c.args.key.now k % 12289) c.loop-place.coefficients 0 (omega arith)
    (λ k h. c.loop-place.invariant.drawn k (omega arith)))
