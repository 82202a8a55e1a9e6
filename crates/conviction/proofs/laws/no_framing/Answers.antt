use Rattle.conviction.proofs.Framings.{no_framing}
use Rattle.conviction.proofs.laws.no_framing.Goals as goal

pub returns : goal.returns
returns c = no_framing
