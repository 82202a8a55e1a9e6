use Rattle.std.proofs.Common.{◌≡◌, ℕ, ◌<◌, length, get_or, map, arith, pos, ap, ◌∙◌, rules}
use Rattle.ring_poly.specs.Residue.{residue}
use Rattle.ring_poly.specs.Product.{product_at, product_of}
use Rattle.ring_poly.proofs.Places.{by_place_is}
use Rattle.ring_poly.proofs.arithmetic.mul.Goals as goal

pub returns-clause-value : goal.returns-clause-value
unfolding product_of
returns-clause-value c =
    let a = c.args.a.now in
    let b = c.args.b.now in
    let sums = c.product_sums.result in
    let long : length sums ≡ 1024 = search rules in
    let at : (k : ℕ) → k < 1024 → get_or c.reduced.result k 0 ≡ residue (product_at (map pos a) b k) = λ k h.
    let sum = rw (c.coefficients.ensures.value, c.coefficients-2.ensures.value) at (c.product_sums.ensures k (omega arith)) in
    c.reduced.ensures.value k (omega (arith, c.reduced.ensures.polynomial.length)) ∙ ap residue sum in
    by_place_is (λ k. residue (product_at (map pos a) b k)) c.reduced.result 0 c.reduced.ensures.polynomial.length at
