use Rattle.std.proofs.Common.{rules}
use Rattle.lm_ots.specs.OneTime.{u32str}
use Rattle.lm_ots.proofs.strings.u32str.Goals as goal

pub returns : goal.returns
unfolding u32str
returns c = search rules
