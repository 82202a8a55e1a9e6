use Rattle.accountability.proofs.Rows.{same_past}
use Rattle.accountability.proofs.laws.same_past.Goals as goal

pub returns : goal.returns
returns c = same_past
