use Rattle.std.proofs.Common.{[]}
use Rattle.wire_core.specs.Hash.{magic, hashed}
use Rattle.wire_core.specs.Register.{Holds}
use Rattle.wire_core.proofs.register.Register.new.Goals as goal

pub returns : goal.returns
unfolding Holds hashed
returns c = rw c.number.ensures at (c.update-2.ensures magic (c.update.ensures [] c.new-hasher.ensures))
