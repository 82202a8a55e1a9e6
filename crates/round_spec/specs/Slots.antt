-- What a past comes to: what stands in its slots, what the last list of a shuffle opens to, and the state of each slot
-- of the list. A past is the list of the contents of a round's slots so far, in the order of slots.
use Rattle.std.specs.Prelude.{ℕ, zero, suc, ◌+◌, List, [], map, replicate, ◌==◌, Option, Some, None, slice_index_or, option_and_then, if◌then◌else◌}
use Rattle.std.specs.List.{range_with_len}
use Rattle.phase_message.specs.declared.content.Body.{Body}
use Rattle.phase_message.specs.declared.content.Body.TheVariants.{Keys, Reveal, Pads}
use Rattle.phase_message.specs.Offence.{content_read}
use Rattle.phase_message.specs.Shape.{Shape}
use Rattle.phase_message.specs.Slots.{slot_number}
use Rattle.shuffle_core.specs.Shuffle.{opened_list}
use Rattle.bulk_descriptor.specs.declared.slot_state.SlotState.{SlotState}
use Rattle.bulk_descriptor.specs.Descriptor.{Description, descriptor_read}
use Rattle.bulk_descriptor.specs.SlotState.{slot_states}
use Rattle.shuffle_blame.specs.Replay.{body_of, ciphertext_of, list_of}

-- ---- stages

-- the stage of a shuffle's submissions: 1 of shuffle A, which is number 1, and n + 7 of shuffle B, which is number 2
abbrev pub submit_stage : Shape → ℕ → ℕ
submit_stage shape shuffle = if shuffle == 1 then 1 else shape.members + 7

-- the stage of a shuffle's end: behind its submissions stand the turns of all members and the votes
abbrev pub final_stage : Shape → ℕ → ℕ
final_stage shape shuffle = submit_stage shape shuffle + (shape.members + 2)

-- the stage of the pads
abbrev pub pad_stage : Shape → ℕ
pad_stage shape = shape.members + 4

-- ---- what was said

-- one value for each member, from member 1 to the last
abbrev pub by_member : {A : Type 0} → Shape → (ℕ → A) → List A
by_member shape value_of = map value_of (range_with_len 1 shape.members)

-- what was said in a slot; of bytes that spell nothing it is Abort
unfoldable pub said_in : Shape → List (List ℕ) → ℕ → ℕ → Body
said_in shape past stage sender = body_of (content_read shape (slice_index_or past (slot_number shape stage sender) []))

-- the keys that a body says
abbrev pub keys_in : Body → List (List ℕ)
keys_in (Keys keys) = keys
keys_in _ = []

-- one of the five keys that a member said, by its place among them, from 0
abbrev pub key_said : Shape → List (List ℕ) → ℕ → ℕ → List ℕ
key_said shape past place member = slice_index_or (keys_in (said_in shape past 0 member)) place []

-- that key of each member
abbrev pub keys_said : Shape → List (List ℕ) → ℕ → List (List ℕ)
keys_said shape past place = by_member shape (key_said shape past place)

-- which of the five keys is the inner key of a shuffle: the first, and the fourth
abbrev pub inner_place : ℕ → ℕ
inner_place shuffle = if shuffle == 1 then 0 else 3

-- which of them is the bulk key, under which seeds of pads are sealed
abbrev pub bulk_place : ℕ
bulk_place = 2

-- what each member submitted to a shuffle
abbrev pub submissions_said : Shape → List (List ℕ) → ℕ → List (List ℕ)
submissions_said shape past shuffle = by_member shape (λ member. ciphertext_of (said_in shape past (submit_stage shape shuffle) member))

-- the list after so many turns of a shuffle, unless the last of them said Abort; before the first it is the submissions
abbrev pub list_said : Shape → List (List ℕ) → ℕ → ℕ → Option (List (List ℕ))
list_said shape past shuffle zero = Some (submissions_said shape past shuffle)
list_said shape past shuffle (suc turn) = list_of (said_in shape past (submit_stage shape shuffle + suc turn) (suc turn))

-- ---- what the last list opens to

-- the inner seed that a body reveals
abbrev pub seed_in : Body → List ℕ
seed_in (Reveal votes seed) = seed
seed_in _ = []

-- the inner seeds that the members revealed at the end of a shuffle
abbrev pub seeds_revealed : Shape → List (List ℕ) → ℕ → List (List ℕ)
seeds_revealed shape past shuffle = by_member shape (λ member. seed_in (said_in shape past (final_stage shape shuffle) member))

-- what entries open to; where there is no list it counts as an entry for each member, of which none opens
abbrev pub entries_opened : Shape → List (List ℕ) → Option (List (List ℕ)) → List (Option (List ℕ))
entries_opened shape seeds None = replicate shape.members None
entries_opened shape seeds (Some list) = opened_list seeds list

-- what the last list of a shuffle opens to, through the layers of all members, by the seeds that they revealed
unfoldable pub items_opened : Shape → List (List ℕ) → ℕ → List (Option (List ℕ))
items_opened shape past shuffle =
    entries_opened shape (seeds_revealed shape past shuffle) (list_said shape past shuffle shape.members)

-- ---- slots of the list

-- the descriptor of each slot of the list, where it opened to one
unfoldable pub descriptors_opened : Shape → List (List ℕ) → List (Option Description)
descriptors_opened shape past = map (option_and_then (descriptor_read shape.members)) (items_opened shape past 1)

-- the pads that a body says
abbrev pub pads_in : Body → List (List ℕ)
pads_in (Pads pads) = pads
pads_in _ = []

-- the pads that each member sent, one for each slot of the list
unfoldable pub pads_sent : Shape → List (List ℕ) → List (List (List ℕ))
pads_sent shape past = by_member shape (λ member. pads_in (said_in shape past (pad_stage shape) member))

-- the state of each slot of the list: empty, or bad by the least member whose pad does not fit, or the message that
-- all pads together give, or that they give another than the descriptor tells
unfoldable pub slots_of_past : Shape → List (List ℕ) → List SlotState
slots_of_past shape past = slot_states (descriptors_opened shape past) (pads_sent shape past)
