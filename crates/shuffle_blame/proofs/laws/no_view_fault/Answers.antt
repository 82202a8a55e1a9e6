use Rattle.shuffle_blame.proofs.Faults.{no_view_fault}
use Rattle.shuffle_blame.proofs.laws.no_view_fault.Goals as goal

pub returns : goal.returns
returns c = no_view_fault
