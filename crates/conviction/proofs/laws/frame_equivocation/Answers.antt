use Rattle.conviction.proofs.Posts.{frame_equivocation}
use Rattle.conviction.proofs.laws.frame_equivocation.Goals as goal

pub returns : goal.returns
returns c = frame_equivocation
