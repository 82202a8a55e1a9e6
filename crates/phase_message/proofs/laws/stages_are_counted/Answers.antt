use Rattle.phase_message.proofs.SlotLists.{past-stage, stage-past, slots_before-past}
use Rattle.phase_message.proofs.laws.stages_are_counted.Goals as goal

pub returns-clause-past : goal.returns-clause-past
returns-clause-past c = λ shape stage. (past-stage shape stage, stage-past shape stage)

pub returns-clause-slots : goal.returns-clause-slots
returns-clause-slots c = slots_before-past
