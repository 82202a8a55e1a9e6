use Rattle.phase_message.proofs.Whole.{content-is_read}
use Rattle.phase_message.proofs.laws.spelled_contents_are_read.Goals as goal

pub returns : goal.returns
returns c = content-is_read
