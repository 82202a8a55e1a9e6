use Rattle.wire_core.specs.Hash.{hash_of, hashed}
use Rattle.wire_core.specs.Register.{Holds}
use Rattle.wire_core.proofs.register.Register.end.Goals as goal

pub returns : goal.returns
unfolding hash_of Holds
returns c tag pieces holds = c.finalize.ensures (hashed tag pieces) holds
