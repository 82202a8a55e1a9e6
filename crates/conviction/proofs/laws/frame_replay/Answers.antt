use Rattle.conviction.proofs.ReplayStrings.{frame_replay}
use Rattle.conviction.proofs.laws.frame_replay.Goals as goal

pub returns : goal.returns
returns c = frame_replay
