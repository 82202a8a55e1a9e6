use Rattle.std.proofs.Common.{ℕ, ◌-◌, List, sym, ap, ◌∙◌, subst}
use Rattle.bulk_descriptor.specs.Descriptor.{IsDescriptor}
use Rattle.group_spec.specs.Alterations.{with_bit_changed, with_changed}
use Rattle.faulty_member.proofs.Changes.{form-changed}
use Rattle.faulty_member.proofs.altering.bad_descriptor.Goals as goal

pub invariant_of-result : goal.invariant_of-result
invariant_of-result c =
    let own = c.args.own in
    let place : ℕ = c.from.result - 1 in
    let hashes = c.of.ensures ∙ c.change_hash.ensures ∙ ap (λ (h : List (List ℕ)). with_changed (with_bit_changed 0) place h)
    c.into_items-hashes.ensures in
    record {
      form = subst (λ (h : List (List ℕ)). IsDescriptor own.length own.message_hash h own.capsules) (sym hashes)
          (form-changed own.length place own.message_hash own.pad_hashes own.capsules own.form);
    }
