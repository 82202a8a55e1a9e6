use Rattle.std.proofs.Common.{ℕ, List, ap, ◌∙◌}
use Rattle.ring_encrypt.specs.Capsule.{key_of_seed}
use Rattle.round_spec.specs.Say.{keys_row, own_key_seed}
use Rattle.honest_say.proofs.OwnRows.{five-keys}
use Rattle.honest_say.proofs.keys.keys_body.Goals as goal

pub returns : goal.returns
unfolding keys_row
returns c = λ config first bulk second.
    let key : ℕ → List ℕ = λ place. key_of_seed (own_key_seed config place) in
    five-keys c.bytes.result.now c.bytes-2.result.now c.bytes-3.result.now c.bytes-4.result.now c.bytes-5.result.now (key 0) (key 1) (key 2)
    (key 3) (key 4)
    (c.bytes.ensures.value ∙ c.public.ensures ∙ ap key_of_seed first.inner)
    (c.bytes-2.ensures.value ∙ c.public-2.ensures ∙ ap key_of_seed first.outer)
    (c.bytes-3.ensures.value ∙ c.public-3.ensures ∙ ap key_of_seed bulk.key)
    (c.bytes-4.ensures.value ∙ c.public-4.ensures ∙ ap key_of_seed second.inner)
    (c.bytes-5.ensures.value ∙ c.public-5.ensures ∙ ap key_of_seed second.outer)
