use Rattle.accountability.proofs.AllDone.{all_honest}
use Rattle.accountability.proofs.laws.all_honest.Goals as goal

pub returns : goal.returns
returns c = all_honest
