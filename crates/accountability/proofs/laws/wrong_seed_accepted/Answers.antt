use Rattle.accountability.proofs.OnePost.{wrong_seed_accepted}
use Rattle.accountability.proofs.laws.wrong_seed_accepted.Goals as goal

pub returns : goal.returns
returns c = wrong_seed_accepted
