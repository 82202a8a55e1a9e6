use Rattle.wire_core.proofs.Hashed.{hashed_determines}
use Rattle.wire_core.proofs.laws.hashed_determines.Goals as goal

pub returns : goal.returns
returns c = hashed_determines
