use Rattle.std.proofs.Common.{◌∙◌, ap, arith, List, ℕ}
use Rattle.std.specs.List.{list_all}
use Rattle.std.proofs.lemmas.Bool.{both_ways}
use Rattle.ring_encrypt.specs.Reduced.{is_reduced}
use Rattle.bulk_descriptor.specs.Descriptor.{parts_of}
use Rattle.bulk_descriptor.proofs.SpellingLemmas.{not_passed, passed_if_reduced}
use Rattle.bulk_descriptor.proofs.reading.is_descriptor.Goals as goal
use Rattle.bulk_descriptor.proofs.reading.is_descriptor.Goals.{then-not-is_group-via-then-not-is_group, then-not-is_group-via-else-not-is_group+then-bytes-count}

pub returns-then-not-is_group : goal.returns-then-not-is_group
returns-then-not-is_group c =
    not_passed c.args.n c.args.bytes.now
    (λ p.
    elim c.then-not-is_group.branch [
      | then-not-is_group-via-then-not-is_group w ↦ both_ways c.is_group.result w.if-not-is_group.true
          (c.is_group.ensures.1 (p.least, p.most))
      | then-not-is_group-via-else-not-is_group+then-bytes-count w ↦ w.if-bytes-count.true p.long
    ])

pub returns-then-not-is_short : goal.returns-then-not-is_short
returns-then-not-is_short c =
    not_passed c.args.n c.args.bytes.now (λ p. both_ways c.is_short.result c.if-not-is_short.true
    (c.is_short.ensures.1 (omega (arith, c.length_of.ensures, p.short))))

pub returns : goal.returns
returns c =
    let group = c.is_group.ensures.0 c.if-not-is_group.false in
    passed_if_reduced c.args.n c.args.bytes.now c.are_reduced.result group.0 group.1 c.if-bytes-count.false
    (omega (arith, c.length_of.ensures, c.is_short.ensures.0 c.if-not-is_short.false))
    (c.are_reduced.ensures ∙ ap (λ (b : List ℕ). list_all is_reduced (parts_of 2240 c.args.n b)) c.split_at.ensures.back)
