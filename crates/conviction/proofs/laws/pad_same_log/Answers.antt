use Rattle.conviction.proofs.SamePasts.{pad_same_log}
use Rattle.conviction.proofs.laws.pad_same_log.Goals as goal

pub returns : goal.returns
returns c = pad_same_log
