use Rattle.lms_tree.proofs.OwnPaths.{own_signatures_are_valid}
use Rattle.lms_tree.proofs.laws.own_signatures_are_valid.Goals as goal

pub returns : goal.returns
returns c = own_signatures_are_valid
