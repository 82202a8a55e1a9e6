use Rattle.accountability.proofs.AllHonest.{nothing_but_pads}
use Rattle.accountability.proofs.laws.nothing_but_pads.Goals as goal

pub returns : goal.returns
returns c = nothing_but_pads
