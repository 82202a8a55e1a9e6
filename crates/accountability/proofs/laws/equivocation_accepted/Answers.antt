use Rattle.accountability.proofs.Equivocations.{equivocation_accepted}
use Rattle.accountability.proofs.laws.equivocation_accepted.Goals as goal

pub returns : goal.returns
returns c = equivocation_accepted
