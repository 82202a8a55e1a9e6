use Rattle.accountability.proofs.PadEvidence.{bad_pad_accepted}
use Rattle.accountability.proofs.laws.bad_pad_accepted.Goals as goal

pub returns : goal.returns
returns c = bad_pad_accepted
