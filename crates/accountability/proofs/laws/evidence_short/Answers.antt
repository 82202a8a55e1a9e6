use Rattle.accountability.proofs.Lengths.{evidence_short, replay_short}
use Rattle.accountability.proofs.laws.evidence_short.Goals as goal

pub returns-clause-whole : goal.returns-clause-whole
returns-clause-whole c = evidence_short

pub returns-clause-replay : goal.returns-clause-replay
returns-clause-replay c = replay_short
