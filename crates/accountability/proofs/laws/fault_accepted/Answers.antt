use Rattle.accountability.proofs.OnePost.{fault_accepted}
use Rattle.accountability.proofs.laws.fault_accepted.Goals as goal

pub returns : goal.returns
returns c = fault_accepted
