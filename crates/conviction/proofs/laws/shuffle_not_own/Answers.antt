use Rattle.conviction.proofs.Shuffles.{shuffle_not_own}
use Rattle.conviction.proofs.laws.shuffle_not_own.Goals as goal

pub returns : goal.returns
returns c = shuffle_not_own
