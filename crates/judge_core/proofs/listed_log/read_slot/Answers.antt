use Rattle.phase_message.specs.Stages.{shape_of}
use Rattle.judge_core.proofs.PadReadings.{slot-body, slot-said}
use Rattle.judge_core.proofs.listed_log.read_slot.Goals as goal

pub returns-clause-value : goal.returns-clause-value
returns-clause-value c =
    let read = rw c.slot_number.ensures at c.in_ok-content.ensures.value in
    slot-said (shape_of c.args.shape) c.args.log.now c.args.slot.stage c.args.slot.sender _ c.in_ok-content.content c.requires.earlier read

pub returns-clause-grammar : goal.returns-clause-grammar
returns-clause-grammar c =
    let read = rw c.slot_number.ensures at c.in_ok-content.ensures.value in
    slot-body (shape_of c.args.shape) c.args.log.now c.args.slot.stage c.args.slot.sender _ c.in_ok-content.content c.requires.log
    c.requires.earlier
    c.requires.there read c.in_ok-content.ensures.grammar
