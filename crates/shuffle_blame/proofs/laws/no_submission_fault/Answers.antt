use Rattle.shuffle_blame.proofs.Layers.{no_submission_fault}
use Rattle.shuffle_blame.proofs.laws.no_submission_fault.Goals as goal

pub returns : goal.returns
returns c = no_submission_fault
