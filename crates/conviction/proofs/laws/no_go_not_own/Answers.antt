use Rattle.conviction.proofs.OwnVotes.{no_go_not_own}
use Rattle.conviction.proofs.laws.no_go_not_own.Goals as goal

pub returns : goal.returns
returns c = no_go_not_own
