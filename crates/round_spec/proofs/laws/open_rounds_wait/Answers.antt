use Rattle.round_spec.proofs.Waiting.{open_rounds_wait}
use Rattle.round_spec.proofs.laws.open_rounds_wait.Goals as goal

pub returns : goal.returns
returns c = open_rounds_wait
