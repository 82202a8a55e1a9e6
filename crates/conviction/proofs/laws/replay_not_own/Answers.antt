use Rattle.conviction.proofs.OwnReplays.{replay_not_own}
use Rattle.conviction.proofs.laws.replay_not_own.Goals as goal

pub returns : goal.returns
returns c = replay_not_own
