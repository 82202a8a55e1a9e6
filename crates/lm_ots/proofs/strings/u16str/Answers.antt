use Rattle.std.proofs.Common.{rules}
use Rattle.lm_ots.specs.OneTime.{u16str}
use Rattle.lm_ots.proofs.strings.u16str.Goals as goal

pub returns : goal.returns
unfolding u16str
returns c = search rules
