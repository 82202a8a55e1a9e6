-- The slots of a stage by their places.
use Rattle.std.proofs.Common.{◌≡◌, ℕ, zero, suc, ◌+◌, ◌<◌, ◌≤◌, Option, Some, None, refl, arith}
use Rattle.std.specs.List.{slice_get}
use Rattle.phase_message.specs.declared.stage.StageKind.{StageKind}
use Rattle.phase_message.specs.declared.stage.StageKind.TheVariants.{Keys, Submit, Shuffle, Go, Final, Pad, Check, Confirm}
use Rattle.phase_message.specs.Shape.{Shape, IsShape}
use Rattle.phase_message.specs.Stages.{kind_of_stage}
use Rattle.phase_message.specs.Slots.{senders_in, senders_of, slot_at, slots_before}
use Rattle.phase_message.proofs.Counts.{slots_next, slots_past}
use Rattle.phase_message.proofs.SlotLists.{slot_at-place, member-in}
use Rattle.stage_log.specs.Log.{sender_of}

-- a stage has one slot or one for each member
senders_of-most : (shape : Shape) (kind : StageKind) → IsShape shape.version shape.members → senders_of shape kind ≤ 8
senders_of-most shape (Shuffle shuffle k) is = omega arith
senders_of-most shape Keys is = is.most
senders_of-most shape (Submit shuffle) is = is.most
senders_of-most shape (Go shuffle) is = is.most
senders_of-most shape (Final shuffle) is = is.most
senders_of-most shape Pad is = is.most
senders_of-most shape Check is = is.most
senders_of-most shape Confirm is = is.most

-- who speaks at a place of a stage
sender-in : (shape : Shape) (kind : StageKind) (place : ℕ) → place < senders_of shape kind
    → slice_get (senders_in shape kind) place ≡ Some (sender_of (Some kind) place)
sender-in shape (Shuffle shuffle k) zero lt = refl
sender-in shape (Shuffle shuffle k) (suc place) lt = absurd (omega arith)
sender-in shape Keys place lt = member-in shape.members place lt
sender-in shape (Submit shuffle) place lt = member-in shape.members place lt
sender-in shape (Go shuffle) place lt = member-in shape.members place lt
sender-in shape (Final shuffle) place lt = member-in shape.members place lt
sender-in shape Pad place lt = member-in shape.members place lt
sender-in shape Check place lt = member-in shape.members place lt
sender-in shape Confirm place lt = member-in shape.members place lt

pub place-small : (shape : Shape) (stage place : ℕ) → IsShape shape.version shape.members
    → slots_before shape stage + place < slots_before shape (stage + 1) → place < 8
place-small shape stage place is lt = by_kind shape stage place (kind_of_stage shape stage) refl is lt
  where
    by_kind : (shape : Shape) (stage place : ℕ) (o : Option StageKind) → kind_of_stage shape stage ≡ o → IsShape shape.version shape.members
        → slots_before shape stage + place < slots_before shape (stage + 1) → place < 8
    by_kind shape stage place (Some kind) e is lt = omega (arith, slots_next shape stage kind e, senders_of-most shape kind is)
    by_kind shape stage place None e is lt = absurd (omega (arith, slots_past shape stage e))

pub slot_at-sender : (shape : Shape) (stage place : ℕ) → slots_before shape stage + place < slots_before shape (stage + 1)
    → slot_at shape (slots_before shape stage + place) ≡ Some (record
    { stage = stage; sender = sender_of (kind_of_stage shape stage) place })
slot_at-sender shape stage place lt = by_kind shape stage place (kind_of_stage shape stage) refl lt
  where
    by_kind : (shape : Shape) (stage place : ℕ) (o : Option StageKind) → kind_of_stage shape stage ≡ o
        → slots_before shape stage + place < slots_before shape (stage + 1)
        → slot_at shape (slots_before shape stage + place) ≡ Some (record { stage = stage; sender = sender_of o place })
    by_kind shape stage place (Some kind) e lt =
        slot_at-place shape stage place (sender_of (Some kind) place) kind e
        (sender-in shape kind place (omega (arith, slots_next shape stage kind e)))
    by_kind shape stage place None e lt = absurd (omega (arith, slots_past shape stage e))
