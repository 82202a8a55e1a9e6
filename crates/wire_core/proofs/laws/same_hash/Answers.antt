use Rattle.wire_core.proofs.Hashed.{same_hash}
use Rattle.wire_core.proofs.laws.same_hash.Goals as goal

pub returns : goal.returns
returns c = same_hash
