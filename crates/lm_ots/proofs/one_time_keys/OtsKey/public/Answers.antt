use Rattle.std.proofs.Common.{◌∙◌, List, ℕ, ap, arith}
use Rattle.sha2.specs.Sha256.{sha256}
use Rattle.lm_ots.specs.OneTime.{chain, chain_count, key_string}
use Rattle.lm_ots.specs.Signing.{chain_start, parts_of}
use Rattle.lm_ots.proofs.DigitSizes.{chains_in_table}
use Rattle.lm_ots.proofs.Walking.{values-own_ends}
use Rattle.lm_ots.proofs.one_time_keys.OtsKey.public.Goals as goal

pub returns : goal.returns
returns c =
    let key = parts_of c.args.self.now in
    c.key_over.ensures
    ∙ ap (λ (ends : List ℕ). sha256 (key_string key.identifier key.q ends))
    (values-own_ends key c.walk.new.walks (chain_count key.width)
    (λ i below. c.walk.ensures i below
    ∙ ap (λ (end : ℕ). chain key.identifier key.q i 0 end (chain_start key i))
    (c.walks_to-walks.ensures i (omega (arith, below, chains_in_table key.width)) ∙ c.last_place.ensures)))
