use Rattle.phase_message.proofs.BodyKinds.{bodies_are_of_kinds}
use Rattle.phase_message.proofs.laws.bodies_are_of_kinds.Goals as goal

pub returns : goal.returns
returns c = bodies_are_of_kinds
