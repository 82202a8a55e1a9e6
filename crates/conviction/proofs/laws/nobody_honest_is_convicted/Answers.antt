use Rattle.conviction.proofs.Framings.{nobody_honest_is_convicted}
use Rattle.conviction.proofs.laws.nobody_honest_is_convicted.Goals as goal

pub returns : goal.returns
returns c = nobody_honest_is_convicted
