use Rattle.wire_core.proofs.ByteLists.{hash_bytes}
use Rattle.wire_core.proofs.laws.hash_bytes.Goals as goal

pub returns : goal.returns
returns c = hash_bytes
