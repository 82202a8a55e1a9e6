-- What the slots of the list of shuffle A hold.
use Rattle.std.specs.Prelude.{◌≡◌, ℕ, All, List, length, map}
use Rattle.std.specs.Option.{option_map}
use Rattle.phase_message.specs.Shape.{Shape}
use Rattle.bulk_descriptor.specs.Fields.{description_of}
use Rattle.bulk_descriptor.specs.SlotState.{AreSlots}
use Rattle.accusation.specs.Item.{NamesWithin}
use Rattle.round_spec.specs.Slots.{descriptors_opened, pads_sent, slots_of_past}
use Rattle.honest_say.specs.declared.opening.Slots.{Slots}

-- the descriptors that the list opened to, the pads that were sent, and what these come to, by the past of a log: a state
-- for each member's entry, which names members alone
pub record AreSlotsSaid (shape : Shape) (past : List (List ℕ)) (slots : Slots) : Type 0 where
  pub descriptors : map (option_map description_of) slots.descriptors ≡ descriptors_opened shape past
  pub pads : slots.pads.members ≡ pads_sent shape past
  pub states : slots.states ≡ slots_of_past shape past
  pub fit : AreSlots (map (option_map description_of) slots.descriptors) slots.pads.members
  pub count : length slots.states ≡ shape.members
  pub names : All (NamesWithin shape.members) slots.states
