use Rattle.std.proofs.Common.{List, ℕ, refl, ap, ◌∙◌}
use Rattle.ring_encrypt.specs.Draws.{ternary}
use Rattle.ring_encrypt.specs.Capsule.{key_of_seed}
use Rattle.ring_encrypt.proofs.key_seeds.KeySeed.new.Goals as goal

pub invariant_of-result : goal.invariant_of-result
unfolding key_of_seed
invariant_of-result c = (
  rw (
    c.of-public.ensures,
    c.add-b.ensures.value,
    c.to_poly.ensures.value,
    c.mul-product.ensures.value,
    c.draw_ternary-secret.ensures,
    c.draw_ternary.ensures,
    c.draw_uniform.ensures,
    c.hash_of-stretched.ensures,
    c.hash_of-rho.ensures,
  ) refl,
  c.draw_ternary-secret.ensures ∙ ap (λ (key : List ℕ). ternary key 0) c.hash_of-stretched.ensures,
)
