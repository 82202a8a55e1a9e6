use Rattle.std.proofs.Common.{◌<◌, ◌≢◌, length, get_or, arith, pos, ap, ◌∙◌, w32, get_or-set_other, get_or-set_same, below_more, rules, FitsSigned}
use Rattle.ring_poly.specs.Residue.{residue}
use Rattle.std.proofs.lemmas.List.Elements.{All-from_get_or}
use Rattle.std.proofs.lemmas.Int.{to_z-of_z}
use Rattle.ring_poly.proofs.arithmetic.reduced.Goals as goal

pub loop-place-preserved : goal.loop-place-preserved
loop-place-preserved c =
    let p = c.loop-place.place in
    let inside : p < length c.loop-place.coefficients = omega (arith, c.loop-place.invariant.long) in
    let z = get_or c.args.sums.now p (pos 0) in
    let fits : FitsSigned w32 z = search rules in
    let value = c.residue_of.ensures.value ∙ ap residue (to_z-of_z w32 z fits) in
    record {
      long = search rules;
      done = below_more _ _
          (λ k h. let other : k ≢ p = omega arith in rw get_or-set_other (c.loop-place.invariant.done k h))
          (rw get_or-set_same value);
      small = below_more _ _
          (λ k h. let other : k ≢ p = omega arith in rw get_or-set_other (c.loop-place.invariant.small k h))
          (rw get_or-set_same c.residue_of.ensures.reduced);
    }

pub of-requires : goal.of-requires
of-requires c = All-from_get_or (λ x. x < 12289) c.loop-place.coefficients 0 (λ k h. c.loop-place.invariant.small k (omega arith))
