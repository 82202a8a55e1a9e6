use Rattle.accountability.proofs.Faulty.{accused_faulty}
use Rattle.accountability.proofs.laws.accused_faulty.Goals as goal

pub returns : goal.returns
returns c = accused_faulty
