use Rattle.wire_core.proofs.Hashed.{collide_or_same}
use Rattle.wire_core.proofs.laws.collide_or_same.Goals as goal

pub returns : goal.returns
returns c = collide_or_same
