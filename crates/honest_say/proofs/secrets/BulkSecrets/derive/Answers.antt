use Rattle.std.proofs.Common.{ℕ, List, length, refl, ap, ◌∙◌}
use Rattle.std.proofs.lemmas.List.FromFn.{length-map-range_with_len}
use Rattle.wire_core.specs.Hash.{derived}
use Rattle.honest_say.proofs.OwnSecrets.{derives, pad-seeds}
use Rattle.honest_say.proofs.secrets.BulkSecrets.derive.Goals as goal

pub returns-clause-count : goal.returns-clause-count
returns-clause-count c =
    ap (λ (t : List (List ℕ)). length t) (c.of-pad_seeds.ensures ∙ c.in_ok-seeds.ensures)
    ∙ length-map-range_with_len (derived c.args.fresh.now c.args.round 12) 1 c.args.members

pub returns-clause-own : goal.returns-clause-own
returns-clause-own c = λ config fresh round count. record {
  key = c.new-key.ensures ∙ c.derived-key_seed.ensures ∙ derives config c.args.fresh.now c.args.round _ _ fresh round refl;
  pad_seeds = c.of-pad_seeds.ensures ∙ c.in_ok-seeds.ensures ∙ pad-seeds config c.args.fresh.now c.args.round c.args.members fresh round
      count;
}
