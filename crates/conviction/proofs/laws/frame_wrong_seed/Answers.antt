use Rattle.conviction.proofs.OnePost.{frame_wrong_seed}
use Rattle.conviction.proofs.laws.frame_wrong_seed.Goals as goal

pub returns : goal.returns
returns c = frame_wrong_seed
