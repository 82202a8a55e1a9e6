use Rattle.conviction.proofs.BadPads.{frame_pad}
use Rattle.conviction.proofs.laws.frame_pad.Goals as goal

pub returns : goal.returns
returns c = frame_pad
