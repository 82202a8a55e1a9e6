use Rattle.std.proofs.Common.{take, drop, length, List, ℕ, sym, ap, ◌∙◌, arith}
use Rattle.std.proofs.lemmas.List.{drop-drop}
use Rattle.bulk_descriptor.specs.Descriptor.{Description}
use Rattle.bulk_descriptor.proofs.PartLemmas.{length-parts_of}
use Rattle.bulk_descriptor.proofs.SpellingLemmas.{passes, description_is, form_of, read_if_passed}
use Rattle.bulk_descriptor.proofs.reading.decode.Goals as goal

pub split_at-requires : goal.split_at-requires
split_at-requires c =
    let p = passes c.args.n c.args.bytes.now (sym c.is_descriptor.ensures ∙ c.if-not-is_descriptor.false) in
    omega (arith, p.long)

pub split_at-requires-2 : goal.split_at-requires-2
split_at-requires-2 c =
    let p = passes c.args.n c.args.bytes.now (sym c.is_descriptor.ensures ∙ c.if-not-is_descriptor.false) in
    omega (arith, p.long, c.split_at.ensures.back_len)

pub split_at-requires-3 : goal.split_at-requires-3
split_at-requires-3 c =
    let p = passes c.args.n c.args.bytes.now (sym c.is_descriptor.ensures ∙ c.if-not-is_descriptor.false) in
    omega (arith, p.long, c.split_at.ensures.back_len, c.split_at-2.ensures.back_len)

pub read_capsules-requires : goal.read_capsules-requires
read_capsules-requires c =
    let p = passes c.args.n c.args.bytes.now (sym c.is_descriptor.ensures ∙ c.if-not-is_descriptor.false) in
    omega (arith, p.long, c.split_at.ensures.back_len, c.split_at-2.ensures.back_len, c.split_at-3.ensures.back_len)

pub invariant_of-result : goal.invariant_of-result
invariant_of-result c =
    let bytes = c.args.bytes.now in
    let d : Description = record {
      length = c.length_of.result;
      message_hash = c.hash_in.result;
      pad_hashes = c.of.result;
      capsules =
          c.of-2.result;
    } in
    record {
      form = form_of c.args.n bytes d (sym c.is_descriptor.ensures ∙ c.if-not-is_descriptor.false)
          (description_is c.args.n bytes c.hash_in.result c.split_at-2.result.1.now c.split_at-3.result.1.now c.length_of.result c.of.result
          c.of-2.result c.length_of.ensures
          (c.hash_in.ensures ∙ c.split_at-2.ensures.front ∙ ap (take 32) c.split_at.ensures.back)
          (c.of.ensures ∙ c.in_ok-read_hashes.ensures)
          (c.split_at-2.ensures.back ∙ ap (drop 32) c.split_at.ensures.back ∙ drop-drop 32 4 bytes)
          (c.of-2.ensures ∙ c.in_ok-read_capsules.ensures) c.split_at-3.ensures.back);
    }

pub returns-clause-value : goal.returns-clause-value
returns-clause-value c =
    let bytes = c.args.bytes.now in
    let d : Description = record {
      length = c.length_of.result;
      message_hash = c.hash_in.result;
      pad_hashes = c.of.result;
      capsules =
          c.of-2.result;
    } in
    read_if_passed c.args.n bytes d (sym c.is_descriptor.ensures ∙ c.if-not-is_descriptor.false)
    (description_is c.args.n bytes c.hash_in.result c.split_at-2.result.1.now c.split_at-3.result.1.now c.length_of.result c.of.result
    c.of-2.result c.length_of.ensures
    (c.hash_in.ensures ∙ c.split_at-2.ensures.front ∙ ap (take 32) c.split_at.ensures.back) (c.of.ensures ∙ c.in_ok-read_hashes.ensures)
    (c.split_at-2.ensures.back ∙ ap (drop 32) c.split_at.ensures.back ∙ drop-drop 32 4 bytes)
    (c.of-2.ensures ∙ c.in_ok-read_capsules.ensures) c.split_at-3.ensures.back)

pub returns-clause-members : goal.returns-clause-members
returns-clause-members c = ap (λ (l : List (List ℕ)). length l) (c.of.ensures ∙ c.in_ok-read_hashes.ensures)
    ∙ length-parts_of 32 c.args.n c.split_at-2.result.1.now
