use Rattle.std.proofs.Common.{ℕ, Some, ap, sym, ◌∙◌, arith}
use Rattle.std.specs.Prelude.{Option}
use Rattle.phase_message.specs.declared.stage.Slot.{Slot}
use Rattle.phase_message.specs.declared.stage.StageKind.{StageKind}
use Rattle.phase_message.specs.Stages.{shape_of}
use Rattle.stage_log.specs.Log.{sender_of}
use Rattle.stage_log.proofs.SlotPlaces.{place-small, slot_at-sender}
use Rattle.stage_log.proofs.log.slot_of.Goals as goal

pub overflow_cast-place : goal.overflow_cast-place
overflow_cast-place c = let small = place-small (shape_of c.args.shape) c.args.stage c.args.place c.args.shape.form c.requires in omega
    arith

pub sender_of-sender-requires : goal.sender_of-sender-requires
sender_of-sender-requires c = place-small (shape_of c.args.shape) c.args.stage c.args.place c.args.shape.form c.requires

pub returns : goal.returns
returns c =
    let slot : ℕ → Option Slot = λ sender. Some (record { stage = c.args.stage; sender = sender }) in
    slot_at-sender (shape_of c.args.shape) c.args.stage c.args.place c.requires
    ∙ ap slot (sym (c.sender_of-sender.ensures ∙ ap (λ (kind : Option StageKind). sender_of kind c.args.place) c.stage_kind.ensures.kind))
