-- The slots of a round in their order: by stage, and within a stage by sender.
use Rattle.std.specs.Prelude.{ℕ, ◌+◌, ◌-◌, ◌*◌, List, [], ◌∷◌, ◌++◌, map, take, Option, Some}
use Rattle.std.specs.List.{range_with_len, slice_get, sum_by}
use Rattle.phase_message.specs.declared.stage.Slot.{Slot}
use Rattle.phase_message.specs.declared.stage.StageKind.{StageKind}
use Rattle.phase_message.specs.declared.stage.StageKind.TheVariants.{Shuffle}
use Rattle.phase_message.specs.Shape.{Shape}
use Rattle.phase_message.specs.Stages.{stages, kind_of_stage}

-- how many members speak in a stage of a kind: one at its turn of a shuffle, else all
abbrev pub senders_of : Shape → StageKind → ℕ
senders_of shape (Shuffle shuffle k) = 1
senders_of shape _ = shape.members

-- the senders of the earlier stages, together
abbrev pub slots_before : Shape → ℕ → ℕ
slots_before shape stage = sum_by (senders_of shape) (take stage (stages shape))

-- the place of a sender among those of its stage
abbrev pub place_in : Option StageKind → ℕ → ℕ
place_in (Some (Shuffle shuffle k)) sender = 0
place_in _ sender = sender - 1

-- the place of a slot among all slots of the round, from 0
abbrev pub slot_number : Shape → ℕ → ℕ → ℕ
slot_number shape stage sender = slots_before shape stage + place_in (kind_of_stage shape stage) sender

-- how many slots a round has
abbrev pub slot_count : Shape → ℕ
slot_count shape = 12 * shape.members

-- how many stages a round has
abbrev pub stage_count : Shape → ℕ
stage_count shape = 2 * shape.members + 10

-- who speaks in a stage of a kind, in order
abbrev pub senders_in : Shape → StageKind → List ℕ
senders_in shape (Shuffle shuffle k) = k ∷ []
senders_in shape _ = range_with_len 1 shape.members

-- the slots of stages of these kinds, of which the first has this number
abbrev pub slots_from : Shape → ℕ → List StageKind → List Slot
slots_from shape first [] = []
slots_from shape first (kind ∷ kinds) =
    map (λ sender. record { stage = first; sender = sender }) (senders_in shape kind) ++ slots_from shape (first + 1) kinds

-- the slots of a round, each at its number
abbrev pub slots_of : Shape → List Slot
slots_of shape = slots_from shape 0 (stages shape)

-- the slot of a number
abbrev pub slot_at : Shape → ℕ → Option Slot
slot_at shape number = slice_get (slots_of shape) number
