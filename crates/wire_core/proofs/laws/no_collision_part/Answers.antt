use Rattle.wire_core.proofs.Hashed.{no_collision_part}
use Rattle.wire_core.proofs.laws.no_collision_part.Goals as goal

pub returns : goal.returns
returns c = no_collision_part
