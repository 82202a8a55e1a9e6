use Rattle.group_laws.proofs.Entering.{scripts_enter}
use Rattle.group_laws.proofs.laws.scripts_enter.Goals as goal

pub returns : goal.returns
returns c = scripts_enter
