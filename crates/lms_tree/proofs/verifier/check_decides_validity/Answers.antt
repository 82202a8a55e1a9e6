use Rattle.lms_tree.proofs.Validity.{accepts_valid}
use Rattle.lms_tree.proofs.verifier.check_decides_validity.Goals as goal

pub returns : goal.returns
returns c = accepts_valid
