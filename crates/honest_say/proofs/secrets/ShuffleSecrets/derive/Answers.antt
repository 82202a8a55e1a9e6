use Rattle.std.proofs.Common.{ℕ, ◌+◌, refl, ap, ◌∙◌}
use Rattle.honest_say.proofs.OwnSecrets.{derives}
use Rattle.honest_say.proofs.secrets.ShuffleSecrets.derive.Goals as goal

pub returns : goal.returns
returns c = λ config fresh round. record {
  inner = c.new-inner.ensures ∙ c.derived-inner_seed.ensures
      ∙ derives config c.args.fresh.now c.args.round _ _ fresh round (ap (λ (k : ℕ). k + 1) c.inner_place.ensures.value);
  outer = c.new-outer.ensures ∙ c.derived-outer_seed.ensures
      ∙ derives config c.args.fresh.now c.args.round _ _ fresh round (ap (λ (k : ℕ). k + 1) c.outer_place.ensures.value);
  order = c.derived-order_seed.ensures ∙ derives config c.args.fresh.now c.args.round _ _ fresh round refl;
  inner_opening = c.derived-inner_opening.ensures ∙ derives config c.args.fresh.now c.args.round _ _ fresh round refl;
  outer_opening = c.derived-outer_opening.ensures ∙ derives config c.args.fresh.now c.args.round _ _ fresh round refl;
}
