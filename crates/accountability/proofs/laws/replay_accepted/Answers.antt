use Rattle.accountability.proofs.Replays.{replay_accepted}
use Rattle.accountability.proofs.laws.replay_accepted.Goals as goal

pub returns : goal.returns
returns c = replay_accepted
