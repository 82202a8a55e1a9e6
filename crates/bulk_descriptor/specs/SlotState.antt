-- The state of a slot of the opened list: what its descriptor and the pads that were sent for it come to.
use Rattle.std.specs.Prelude.{◌≡◌, ℕ, ◌-◌, List, [], ◌∷◌, length, map, All, not, slice_index_or, Option, Some, None, IfSome, if◌then◌else◌}
use Rattle.std.specs.List.{find, range_with_len, enumerate_from}
use Rattle.std.specs.Str.{bytes_eq}
use Rattle.wire_core.specs.declared.tag.Tag.TheVariants.{Message as OfMessage}
use Rattle.wire_core.specs.Hash.{hash_of}
use Rattle.bulk_descriptor.specs.declared.slot_state.SlotState.{SlotState}
use Rattle.bulk_descriptor.specs.declared.slot_state.SlotState.TheVariants.{Empty, Bad, Mismatched, Message}
use Rattle.bulk_descriptor.specs.Descriptor.{Description, hidden_under, fits}

-- the exclusive or of all pads of a slot
unfoldable pub joined_pads : List (List ℕ) → List ℕ
joined_pads [] = []
joined_pads (pad ∷ pads) = hidden_under pad pads

-- the least member whose pad does not fit, of the pads of members 1, 2, ..
unfoldable pub first_unfit : Description → List (List ℕ) → Option ℕ
first_unfit d pads =
    find (λ member. not (fits d member (slice_index_or pads (member - 1) []))) (range_with_len 1 (length pads))

-- what pads come to that all fit: their exclusive or, where it has the hash of the message
unfoldable pub joined_state : Description → List ℕ → SlotState
joined_state d message =
    if bytes_eq (hash_of OfMessage (message ∷ [])) d.message_hash then Message message else Mismatched

-- the state with this least member whose pad does not fit, or without one
abbrev pub unless_bad : Option ℕ → SlotState → SlotState
unless_bad (Some first) state = Bad first
unless_bad None state = state

-- the state of a slot by its descriptor, if it holds one, and the pads of members 1, 2, ..
unfoldable pub slot_state : Option Description → List (List ℕ) → SlotState
slot_state None pads = Empty
slot_state (Some d) pads = unless_bad (first_unfit d pads) (joined_state d (joined_pads pads))

-- the pads that all members sent for a slot, which counts from 0 here
abbrev pub pads_for : List (List (List ℕ)) → ℕ → List (List ℕ)
pads_for table slot = map (λ row. slice_index_or row slot []) table

-- the states of all slots
abbrev pub slot_states : List (Option Description) → List (List (List ℕ)) → List SlotState
slot_states descriptors table =
    map (λ (p : ℕ × Option Description). slot_state p.1 (pads_for table p.0)) (enumerate_from 0 descriptors)

-- for one N: N slots, the descriptor of each that has one for N members, and N pads of each of N members
pub record AreSlots (descriptors : List (Option Description)) (table : List (List (List ℕ))) : Type 0 where
  pub members : length table ≡ length descriptors
  pub pads : All (λ row. length row ≡ length descriptors) table
  pub hashes : All (λ slot. IfSome slot (λ d. length d.pad_hashes ≡ length descriptors)) descriptors
