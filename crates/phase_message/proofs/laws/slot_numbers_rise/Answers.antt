use Rattle.phase_message.proofs.SlotLists.{slot_number-later, slot_number-rises, slot_number-within}
use Rattle.phase_message.proofs.laws.slot_numbers_rise.Goals as goal

pub returns-clause-stages : goal.returns-clause-stages
returns-clause-stages c = slot_number-later

pub returns-clause-senders : goal.returns-clause-senders
returns-clause-senders c = slot_number-rises

pub returns-clause-within : goal.returns-clause-within
returns-clause-within c = slot_number-within
