use Rattle.std.proofs.Common.{◌≡◌, ℕ, List, length, drop, ap, ◌∙◌}
use Rattle.std.proofs.lemmas.List.{take_at}
use Rattle.pad_stream.specs.Stream.{stream_of}
use Rattle.pad_stream.specs.ExclusiveOr.{exclusive_or}
use Rattle.pad_stream.proofs.StreamLemmas.{length-bytes_from}
use Rattle.pad_stream.proofs.ExclusiveOrLemmas.{exclusive_or_comm, length-exclusive_or}
use Rattle.layer_cipher.proofs.mask.mask.Goals as goal

pub xor_into-requires : goal.xor_into-requires
xor_into-requires c = rw (c.deref_mut.ensures.value, c.in_ok-masked.ensures)
    (length-bytes_from c.mask_key.result 0 (length c.args.body.now))

pub returns : goal.returns
returns c =
    let body = c.args.body.now in
    let now = c.deref_mut.result.now in
    let into = c.xor_into.new.into in
    let stream : now ≡ stream_of c.mask_key.result (length body) = c.deref_mut.ensures.value ∙ c.in_ok-masked.ensures in
    let long : length now ≡ length body = ap (λ (x : List ℕ). length x) stream ∙ length-bytes_from c.mask_key.result 0 (length body) in
    let size : length into ≡ c.in_ok-masked.masked.len = ap (λ (x : List ℕ). length x) c.xor_into.ensures
    ∙ length-exclusive_or now body long ∙ c.deref_mut.ensures.len in
    take_at into (drop (length into) c.in_ok-masked.masked.items) c.in_ok-masked.masked.len size
    ∙ c.xor_into.ensures
    ∙ ap (λ (x : List ℕ). exclusive_or x body) (stream ∙ ap (λ (key : List ℕ). stream_of key (length body)) c.mask_key.ensures)
    ∙ exclusive_or_comm _ body
