use Rattle.conviction.proofs.Replays.{seed_not_own}
use Rattle.conviction.proofs.laws.seed_not_own.Goals as goal

pub returns : goal.returns
returns c = seed_not_own
