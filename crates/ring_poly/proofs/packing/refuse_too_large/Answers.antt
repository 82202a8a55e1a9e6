use Rattle.std.proofs.Common.{◌≡◌, ◌+◌, ◌<◌, ◌≤◌, get_or, arith}
use Rattle.std.proofs.lemmas.List.Elements.{All-from_get_or}
use Rattle.std.proofs.lemmas.Grind.{common_steps}
use Rattle.ring_poly.proofs.Packings.{none_too_large, first_at}
use Rattle.ring_poly.proofs.packing.refuse_too_large.Goals as goal

pub returns-then-not-is_coefficient-clause-value : goal.returns-then-not-is_coefficient-clause-value
returns-then-not-is_coefficient-clause-value c =
    let p = c.loop-place.place in
    let e : 0 + p ≡ p = omega arith in
    let large : 12289 ≤ get_or c.args.coefficients.now p 0 = grind (arith, common_steps) in
    let found = rw e at (first_at p 0 c.args.coefficients.now c.loop-place-test.true c.loop-place.invariant large) in
    rw c.from.ensures found

pub returns-clause-value : goal.returns-clause-value
returns-clause-value c = none_too_large 0 c.args.coefficients.now (λ k h. c.loop-place.invariant k (omega arith))

pub returns-clause-reduced : goal.returns-clause-reduced
returns-clause-reduced c = All-from_get_or (λ x. x < 12289) c.args.coefficients.now 0 (λ k h. c.loop-place.invariant k (omega arith))
