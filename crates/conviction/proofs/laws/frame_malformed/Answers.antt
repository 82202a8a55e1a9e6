use Rattle.conviction.proofs.Posts.{frame_malformed}
use Rattle.conviction.proofs.laws.frame_malformed.Goals as goal

pub returns : goal.returns
returns c = frame_malformed
