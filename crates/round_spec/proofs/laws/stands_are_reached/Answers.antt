use Rattle.round_spec.proofs.Reached.{stands_are_reached}
use Rattle.round_spec.proofs.laws.stands_are_reached.Goals as goal

pub returns : goal.returns
returns c = stands_are_reached
