use Rattle.std.proofs.Common.{◌≡◌, ℕ, ◌<◌, ◌≢◌, length, get_or, arith, pos, refl, ◌∙◌, ◌+ℤ◌, get_or-set_other, get_or-set_same, below_more, rules}
use Rattle.ring_poly.specs.Residue.{residue}
use Rattle.ring_poly.specs.Product.{sum_of}
use Rattle.std.proofs.lemmas.List.Elements.{All-from_get_or}
use Rattle.ring_poly.proofs.Places.{by_place_is}
use Rattle.ring_poly.proofs.arithmetic.add.Goals as goal

pub loop-place-preserved : goal.loop-place-preserved
loop-place-preserved c =
    let p = c.loop-place.place in
    let inside : p < length c.loop-place.sum = omega arith in
    record {
      long = search rules;
      done = below_more _ _
          (λ k h. let other : k ≢ p = omega arith in rw get_or-set_other (c.loop-place.invariant.done k h))
          (rw get_or-set_same refl);
    }

pub of-requires : goal.of-requires
of-requires c = All-from_get_or (λ x. x < 12289) c.loop-place.sum 0 (λ k h. rw (c.loop-place.invariant.done k (omega arith)) (omega arith))

pub returns-clause-value : goal.returns-clause-value
unfolding sum_of
returns-clause-value c =
    let a = c.args.a.now in
    let b = c.args.b.now in
    let at : (k : ℕ) → k < 1024 → get_or c.loop-place.sum k 0 ≡ residue (pos (get_or a k 0) +ℤ pos (get_or b k 0)) = λ k h.
    let x = c.loop-place.invariant.done k (omega arith) in
    rw (← c.coefficients-a.ensures.value, ← c.coefficients-b.ensures.value) (x ∙ refl) in
    c.of.ensures.value ∙ by_place_is (λ k. residue (pos (get_or a k 0) +ℤ pos (get_or b k 0))) c.loop-place.sum 0
    c.loop-place.invariant.long at
