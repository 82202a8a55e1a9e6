use Rattle.phase_message.proofs.Read.{closings_are_read}
use Rattle.phase_message.proofs.laws.closings_are_read.Goals as goal

pub returns : goal.returns
returns c = closings_are_read
