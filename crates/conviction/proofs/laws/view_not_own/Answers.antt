use Rattle.conviction.proofs.Replays.{view_not_own}
use Rattle.conviction.proofs.laws.view_not_own.Goals as goal

pub returns : goal.returns
returns c = view_not_own
