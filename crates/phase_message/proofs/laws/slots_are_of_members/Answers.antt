use Rattle.phase_message.proofs.SlotBounds.{slot-bounds}
use Rattle.phase_message.proofs.laws.slots_are_of_members.Goals as goal

pub returns : goal.returns
returns c = slot-bounds
