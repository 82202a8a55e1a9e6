use Rattle.std.proofs.Common.{◌<◌, length, map, ap, ◌∙◌, arith, List, Option}
use Rattle.std.specs.Option.{option_map}
use Rattle.std.proofs.lemmas.List.{length-map, take_all}
use Rattle.bulk_descriptor.specs.declared.descriptor.Descriptor.{Descriptor}
use Rattle.bulk_descriptor.specs.Fields.{description_of}
use Rattle.bulk_descriptor.specs.SlotState.{slot_states}
use Rattle.bulk_recovery.proofs.RecoveryLemmas.{slot_states-more, length-slot_states, entry_read, entry_members}
use Rattle.bulk_recovery.proofs.recovery.recover.Goals as goal

pub loop-slot-init : goal.loop-slot-init
loop-slot-init c = c.in_ok-states.ensures.items

pub state_of-requires-clause-members : goal.state_of-requires-clause-members
state_of-requires-clause-members c =
    let items = c.args.descriptors.now.items in
    let held = c.deref-descriptor-items.result.now in
    let i = c.loop-slot.slot in
    let below : i < length items = omega (
      arith,
      c.loop-slot-test.true,
      ap (λ (l : List (Option Descriptor)). length l)
          c.deref-descriptor-items.ensures.value,
    ) in
    let entry = entry_read items held i c.descriptor-item.result c.deref-descriptor-items.ensures.value below c.descriptor-item.is in
    entry_members (map (option_map description_of) items) c.args.pads.now.members i (option_map description_of c.descriptor-item.result)
    c.requires (omega (arith, below, length-map items (option_map description_of))) entry

pub loop-slot-preserved : goal.loop-slot-preserved
loop-slot-preserved c =
    let items = c.args.descriptors.now.items in
    let held = c.deref-descriptor-items.result.now in
    let i = c.loop-slot.slot in
    let below : i < length items = omega (
      arith,
      c.loop-slot-test.true,
      ap (λ (l : List (Option Descriptor)). length l)
          c.deref-descriptor-items.ensures.value,
    ) in
    let entry = entry_read items held i c.descriptor-item.result c.deref-descriptor-items.ensures.value below c.descriptor-item.is in
    c.in_ok-push.ensures.items
    ∙ slot_states-more (map (option_map description_of) items) c.args.pads.now.members c.loop-slot.states.items c.in_ok-state_of.field-0 i
    (option_map description_of c.descriptor-item.result)
    (omega (arith, below, length-map items (option_map description_of))) c.loop-slot.invariant entry c.in_ok-state_of.ensures

pub returns : goal.returns
returns c =
    let items = c.args.descriptors.now.items in
    let all = slot_states (map (option_map description_of) items) c.args.pads.now.members in
    c.loop-slot.invariant
    ∙ take_all c.loop-slot.slot all
    (omega (
      arith,
      c.loop-slot-test.false,
      ap (λ (l : List (Option Descriptor)). length l) c.deref-descriptor-items.ensures.value,
      length-slot_states (map (option_map description_of) items) c.args.pads.now.members,
      length-map items (option_map description_of),
    ))
