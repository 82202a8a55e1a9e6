use Rattle.std.proofs.Common.{◌∙◌, List, ℕ, ap}
use Rattle.sha2.specs.Sha256.{sha256}
use Rattle.lm_ots.specs.declared.walks.Walk.{Walk}
use Rattle.lm_ots.specs.OneTime.{chain_count, key_string}
use Rattle.lm_ots.specs.Walks.{end_of}
use Rattle.lm_ots.proofs.Walking.{values-chain_ends}
use Rattle.lm_ots.proofs.chains.key_of_ends.Goals as goal

pub returns : goal.returns
returns c =
    let identifier : List ℕ = c.args.identifier.now in
    let q : ℕ = c.args.q in
    c.key_over.ensures
    ∙ ap (λ (ends : List ℕ). sha256 (key_string identifier q ends))
    (values-chain_ends c.args.width identifier q c.args.signed.now c.args.sig.now c.walk_to_ends.new.walks (chain_count c.args.width)
    (λ i below. c.walk_to_ends.ensures i (rw c.p.ensures below)
    ∙ ap (λ (w : Walk). end_of identifier q i w) (c.walks_of_signature-walks.ensures i below)))
