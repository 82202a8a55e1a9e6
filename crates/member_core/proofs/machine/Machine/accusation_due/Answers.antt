use Rattle.std.proofs.Common.{◌≡◌, ℕ, ◌≤◌, All, List, length, ap, sym, ◌∙◌, subst, arith}
use Rattle.phase_message.specs.Shape.{Shape}
use Rattle.shuffle_blame.specs.Asked.{past_of}
use Rattle.bulk_descriptor.specs.declared.slot_state.SlotState.{SlotState}
use Rattle.accusation.specs.Item.{NamesWithin}
use Rattle.round_spec.specs.Slots.{items_opened, slots_of_past}
use Rattle.round_spec.specs.Say.{own_item, shape_in}
use Rattle.honest_say.specs.Own.{AreBulkSecrets}
use Rattle.honest_say.specs.Stays.{AreReached}
use Rattle.honest_say.proofs.Staying.{items_stay}
use Rattle.closing_verdict.specs.Carried.{AreItemsOf, AreSlotsOf, stage_found, stage_opened}
use Rattle.member_core.proofs.Belonging.{carried-items, carried-slots, carries-late, held-is, not-missing, of-group, reaches, seeds-count, shape-is, slots-late}
use Rattle.member_core.proofs.machine.Machine.accusation_due.Goals as goal

pub unreachable-requires : goal.unreachable-requires
unreachable-requires c =
    let m = c.args.self.now in
    let early = carries-late m.log m.stage (λ items. items.items) m.opened c.in_default.is c.requires.ready.opened in
    omega (arith, c.requires.stage, early)

pub unreachable-unreachable : goal.unreachable-unreachable
unreachable-unreachable c = c.unreachable.type_inv

pub unreachable-requires-in_default-slots : goal.unreachable-requires-in_default-slots
unreachable-requires-in_default-slots c =
    let m = c.args.self.now in
    let early = slots-late m.log m.stage m.slots c.in_default-slots.is c.requires.ready.slots in
    omega (arith, c.requires.stage, early)

pub unreachable-unreachable-in_default-slots : goal.unreachable-unreachable-in_default-slots
unreachable-unreachable-in_default-slots c = c.unreachable-in_default-slots.type_inv

pub unreachable-requires-in_default-bulk : goal.unreachable-requires-in_default-bulk
unreachable-requires-in_default-bulk c = not-missing c.args.self.now.secrets.bulk c.requires.held c.in_default-bulk.is

pub unreachable-unreachable-in_default-bulk : goal.unreachable-unreachable-in_default-bulk
unreachable-unreachable-in_default-bulk c = c.unreachable-in_default-bulk.type_inv

pub accusation_item-requires-clause-as_many : goal.accusation_item-requires-clause-as_many
accusation_item-requires-clause-as_many c =
    let m = c.args.self.now in
    let items : AreItemsOf m.log c.in-Some.opened.items = carried-items m.log m.stage (λ items. items.items) m.opened c.in-Some.opened
    c.in-Some.is c.requires.ready.opened in
    let slots : AreSlotsOf m.log c.in-Some-slots.slots = carried-slots m.log m.stage m.slots c.in-Some-slots.slots c.in-Some-slots.is
    c.requires.ready.slots in
    let states = ap (λ (s : List SlotState). length s) c.items.ensures in
    omega (arith, c.in-Some.opened.ok.0, c.items.result.now.ok.0, items.count, slots.count, states)

pub accusation_item-requires-clause-few : goal.accusation_item-requires-clause-few
accusation_item-requires-clause-few c =
    let m = c.args.self.now in
    let slots : AreSlotsOf m.log c.in-Some-slots.slots = carried-slots m.log m.stage m.slots c.in-Some-slots.slots c.in-Some-slots.is
    c.requires.ready.slots in
    let states = ap (λ (s : List SlotState). length s) c.items.ensures in
    let few = (of-group m c.requires.formed).most in
    omega (arith, c.items.result.now.ok.0, slots.count, states, few)

pub accusation_item-requires-clause-members : goal.accusation_item-requires-clause-members
accusation_item-requires-clause-members c =
    let m = c.args.self.now in
    let slots : AreSlotsOf m.log c.in-Some-slots.slots = carried-slots m.log m.stage m.slots c.in-Some-slots.slots c.in-Some-slots.is
    c.requires.ready.slots in
    subst (λ (s : List SlotState). All (NamesWithin (length c.in-Some-bulk.bulk.pad_seeds)) s) (sym c.items.ensures)
    (subst (λ (n : ℕ). All (NamesWithin n) c.in-Some-slots.slots.states)
    (sym (seeds-count m c.in-Some-bulk.bulk c.requires.formed c.in-Some-bulk.is)) slots.names)

pub returns : goal.returns
returns c = λ config seat secrets.
    let m = c.args.self.now in
    let past : List (List ℕ) = past_of m.log m.stage in
    let at = c.requires.stage in
    let shape = shape-is config m c.requires.formed seat in
    let items : AreItemsOf m.log c.in-Some.opened.items = carried-items m.log m.stage (λ items. items.items) m.opened c.in-Some.opened
    c.in-Some.is c.requires.ready.opened in
    let slots : AreSlotsOf m.log c.in-Some-slots.slots = carried-slots m.log m.stage m.slots c.in-Some-slots.slots c.in-Some-slots.is
    c.requires.ready.slots in
    let order : stage_opened m.log ≤ m.stage = omega (arith, at) in
    let found : stage_found m.log ≡ m.stage = omega (arith, at) in
    let reached : AreReached m.log (stage_opened m.log) m.stage = record
    { order = order; at = reaches m.log (stage_opened m.log) m.stage order c.requires.ready.past; at_later = c.requires.ready.past } in
    let opened : c.in-Some.opened.items ≡ items_opened (shape_in config) past 1
    = items.are ∙ items_stay m.log (stage_opened m.log) m.stage 1 reached (omega arith) (omega arith) (omega arith)
    ∙ ap (λ (s : Shape). items_opened s past 1) shape in
    let states : c.items.result.now.items ≡ slots_of_past (shape_in config) past
    = c.items.ensures ∙ slots.states ∙ ap (λ (s : ℕ). slots_of_past m.log.shape (past_of m.log s)) found
    ∙ ap (λ (s : Shape). slots_of_past s past) shape in
    c.accusation_item.ensures config past (held-is m.secrets.bulk c.in-Some-bulk.bulk (AreBulkSecrets config) c.in-Some-bulk.is
    secrets.bulk) opened states
    ∙ ap (λ (own : List ℕ). own_item config own past 2) (c.deref.ensures.value ∙ c.items-own.ensures)
