use Rattle.phase_message.proofs.SlotLists.{length-slots_of, slot_at-number, slot_at-is}
use Rattle.phase_message.proofs.laws.slots_are_numbered.Goals as goal

pub returns-clause-count : goal.returns-clause-count
returns-clause-count c = length-slots_of

pub returns-clause-stands : goal.returns-clause-stands
returns-clause-stands c = slot_at-number

pub returns-clause-found : goal.returns-clause-found
returns-clause-found c = slot_at-is
