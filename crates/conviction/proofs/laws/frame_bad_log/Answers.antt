use Rattle.conviction.proofs.OnePost.{frame_bad_log}
use Rattle.conviction.proofs.laws.frame_bad_log.Goals as goal

pub returns : goal.returns
returns c = frame_bad_log
