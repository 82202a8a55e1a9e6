use Rattle.std.proofs.Common.{◌≡◌, sym, ap, ◌∙◌, arith, List, ℕ, cond}
use Rattle.std.specs.Option.{option_map}
use Rattle.bulk_descriptor.specs.declared.slot_state.SlotState.TheVariants.{Message, Mismatched}
use Rattle.bulk_descriptor.specs.Fields.{description_of}
use Rattle.bulk_descriptor.specs.SlotState.{pads_for, joined_pads}
use Rattle.bulk_recovery.proofs.RecoveryLemmas.{state_without, state_bad, state_joined, sizes_from_fit, length-joined_pads}
use Rattle.bulk_recovery.proofs.recovery.state_of.Goals as goal

pub returns-in_default : goal.returns-in_default
returns-in_default c = state_without (option_map description_of c.args.descriptor.now) (pads_for c.args.pads.now.members c.args.slot)
    (ap (option_map description_of) c.in_default.is)

pub returns-in-Some-first_unfit : goal.returns-in-Some-first_unfit
returns-in-Some-first_unfit c =
    state_bad (option_map description_of c.args.descriptor.now) (description_of c.in-Some.descriptor)
    (pads_for c.args.pads.now.members c.args.slot) c.first_unfit.result c.in-Some-first_unfit.first
    (ap (option_map description_of) c.in-Some.is) c.first_unfit.ensures c.in-Some-first_unfit.is

pub joined_pads-requires-clause-sizes : goal.joined_pads-requires-clause-sizes
joined_pads-requires-clause-sizes c =
    sizes_from_fit (description_of c.in-Some.descriptor) (pads_for c.args.pads.now.members c.args.slot) c.first_unfit.result
    c.first_unfit.ensures c.in_default-first_unfit.is

pub has_hash_of-requires : goal.has_hash_of-requires
has_hash_of-requires c =
    let d = c.in-Some.descriptor in
    let pads = pads_for c.args.pads.now.members c.args.slot in
    let joined : c.deref.result.now ≡ joined_pads pads = c.deref.ensures.value ∙ c.in_ok-message.ensures in
    let sizes = sizes_from_fit (description_of d) pads c.first_unfit.result c.first_unfit.ensures c.in_default-first_unfit.is in
    rw joined (omega (arith, length-joined_pads d.length pads sizes, d.form.short))

pub returns-then-has_hash_of : goal.returns-then-has_hash_of
returns-then-has_hash_of c =
    state_joined (option_map description_of c.args.descriptor.now) (description_of c.in-Some.descriptor)
    (pads_for c.args.pads.now.members c.args.slot) c.first_unfit.result c.deref.result.now c.has_hash_of.result (Message c.of.result)
    (ap (option_map description_of) c.in-Some.is) c.first_unfit.ensures c.in_default-first_unfit.is
    (c.deref.ensures.value ∙ c.in_ok-message.ensures) c.has_hash_of.ensures
    (ap (λ (m : List ℕ). Message m) (c.of.ensures ∙ sym c.deref.ensures.value)
    ∙ ap (λ b. cond b (Message c.deref.result.now) Mismatched) (sym c.if-has_hash_of.true))

pub returns-else-has_hash_of : goal.returns-else-has_hash_of
returns-else-has_hash_of c =
    state_joined (option_map description_of c.args.descriptor.now) (description_of c.in-Some.descriptor)
    (pads_for c.args.pads.now.members c.args.slot) c.first_unfit.result c.deref.result.now c.has_hash_of.result Mismatched
    (ap (option_map description_of) c.in-Some.is) c.first_unfit.ensures c.in_default-first_unfit.is
    (c.deref.ensures.value ∙ c.in_ok-message.ensures) c.has_hash_of.ensures
    (ap (λ b. cond b (Message c.deref.result.now) Mismatched) (sym c.if-has_hash_of.false))
