use Rattle.accountability.proofs.Evidence.{evidence_accepted, verdict_accepted}
use Rattle.accountability.proofs.Faulty.{evidence_is_bytes}
use Rattle.accountability.proofs.laws.evidence_accepted.Goals as goal

pub returns-clause-verdict : goal.returns-clause-verdict
returns-clause-verdict c = verdict_accepted

pub returns-clause-whole : goal.returns-clause-whole
returns-clause-whole c = evidence_accepted

pub returns-clause-bytes : goal.returns-clause-bytes
returns-clause-bytes c = evidence_is_bytes
