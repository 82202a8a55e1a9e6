use Rattle.judge_core.proofs.Convictions.{accepts_exactly}
use Rattle.judge_core.proofs.laws.checks_are_exact.Goals as goal

pub returns : goal.returns
returns c = accepts_exactly
