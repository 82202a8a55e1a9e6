use Rattle.shuffle_blame.proofs.Faults.{no_seed_fault}
use Rattle.shuffle_blame.proofs.laws.no_seed_fault.Goals as goal

pub returns : goal.returns
returns c = no_seed_fault
