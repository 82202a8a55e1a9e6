use Rattle.wire_core.proofs.Hashed.{layer_seed_determines}
use Rattle.wire_core.proofs.laws.layer_seed_determines.Goals as goal

pub returns : goal.returns
returns c = layer_seed_determines
