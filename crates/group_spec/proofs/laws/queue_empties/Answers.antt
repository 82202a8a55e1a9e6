use Rattle.group_spec.proofs.Queues.{queues_empty, runs_end_alike}
use Rattle.group_spec.proofs.laws.queue_empties.Goals as goal

pub returns-clause-empty : goal.returns-clause-empty
returns-clause-empty c = queues_empty

pub returns-clause-alike : goal.returns-clause-alike
returns-clause-alike c = runs_end_alike
