use Rattle.phase_message.proofs.Whole.{content-header}
use Rattle.phase_message.proofs.laws.headers_agree.Goals as goal

pub returns : goal.returns
returns c = content-header
