use Rattle.std.proofs.Common.{arith, refl, length-append}
use Rattle.ring_encrypt.specs.Capsule.{sealed_with}
use Rattle.ring_encrypt.proofs.capsules.seal_with.Goals as goal

pub invariant_of-result : goal.invariant_of-result
invariant_of-result c = rw c.join.ensures (omega (
  arith,
  length-append c.pack.result c.pack_short.result,
  c.pack.ensures.length,
  c.pack_short.ensures.length,
))

pub returns : goal.returns
unfolding sealed_with
returns c =
    rw (
      c.join.ensures,
      c.pack.ensures.value,
      c.pack_short.ensures.value,
      c.add-u.ensures.value,
      c.carry-v.ensures.value,
      c.mul.ensures.value,
      c.mul-2.ensures.value,
      c.to_poly.ensures.value,
      c.draw_ternary-r.ensures,
      c.draw_ternary.ensures,
      c.draw_ternary-2.ensures,
    ) refl
