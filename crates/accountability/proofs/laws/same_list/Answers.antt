use Rattle.accountability.proofs.SameList.{same_list}
use Rattle.accountability.proofs.laws.same_list.Goals as goal

pub returns : goal.returns
returns c = same_list
