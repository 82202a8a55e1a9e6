use Rattle.phase_message.proofs.Whole.{content-is_spelled}
use Rattle.phase_message.proofs.laws.contents_are_spelled.Goals as goal

pub returns : goal.returns
returns c = content-is_spelled
