use Rattle.std.proofs.Common.{◌≡◌, ◌<◌, ◌≤◌, ◌^◌, ◌≢◌, length, get_or, arith, pos, sym, ap, ◌∙◌, ◌+ℤ◌, to_z, of_z, w32, unsigned_abs, get_or-set_other, get_or-set_same, below_more}
use Rattle.std.proofs.Math.IntN.{◌*ℤ◌}
use Rattle.ring_poly.proofs.Words.{read_multiple, read_back}
use Rattle.ring_poly.proofs.arithmetic.add_multiple.Goals as goal

pub loop-place-preserved : goal.loop-place-preserved
loop-place-preserved c =
    let p = c.loop-place.place in
    let f = c.args.factor in
    let old = get_or c.loop-place.sums p (pos 0) in
    let t = get_or c.args.terms.now p 0 in
    let inside : p < length c.loop-place.sums = omega arith in
    let same : old ≡ get_or c.args.sums.now p (pos 0) = c.loop-place.invariant.left p (omega arith) in
    let size : unsigned_abs old ≤ 2 ^ 30 = rw same (c.requires.sums p (pos 0) (omega arith)) in
    let small = c.requires.factor in
    let back : to_z w32 (of_z w32 f) ≡ f = read_back f (omega arith) in
    let stored : to_z w32 (of_z w32 (to_z w32 (of_z w32 old) +ℤ to_z w32
    (of_z w32 (to_z w32 (of_z w32 c.from.result) *ℤ to_z w32 (of_z w32 f))))) ≡ old +ℤ (pos t *ℤ f) =
    rw c.from.ensures (read_multiple old t f size (c.requires.terms p 0 (omega arith)) small) in
    record {
      done = below_more _ _
          (λ k h. let other : k ≢ p = omega arith in rw get_or-set_other (c.loop-place.invariant.done k h))
          (rw get_or-set_same (stored ∙ ap (λ x. x +ℤ (pos t *ℤ f)) same
          ∙ ap (λ x. get_or c.args.sums.now p (pos 0) +ℤ (pos t *ℤ x)) (sym back)));
      left = λ k h. let other : k ≢ p = omega arith in rw get_or-set_other (c.loop-place.invariant.left k (omega arith));
    }
