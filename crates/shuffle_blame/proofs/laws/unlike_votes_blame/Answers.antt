use Rattle.shuffle_blame.proofs.Faults.{unlike_votes_blame}
use Rattle.shuffle_blame.proofs.laws.unlike_votes_blame.Goals as goal

pub returns : goal.returns
returns c = unlike_votes_blame
