use Rattle.std.proofs.Common.{ℕ, Some, None, ap, ◌∙◌}
use Rattle.phase_message.specs.Shape.{Shape}
use Rattle.phase_message.specs.Slots.{slot_number}
use Rattle.judge_core.proofs.Unlike.{unlike-is}
use Rattle.judge_core.proofs.replaying.unlike_slot.Goals as goal

pub returns-in_err-slot : goal.returns-in_err-slot
returns-in_err-slot c = λ stage past others k k'.
    c.from_residual.ensures ∙ unlike-is c.args.log.now.shape stage past others c.args.log.now c.args.other.now k k' None
    c.in_err-slot.ensures.first

pub returns : goal.returns
returns c = λ stage past others k k'.
    ap (λ (n : ℕ). Some n) (c.slot_number.ensures ∙ ap (λ (s : Shape). slot_number s c.in_ok-slot.slot.stage c.in_ok-slot.slot.sender)
    c.shape.ensures.shape)
    ∙ unlike-is c.args.log.now.shape stage past others c.args.log.now c.args.other.now k k' (Some c.in_ok-slot.slot)
    c.in_ok-slot.ensures.first
