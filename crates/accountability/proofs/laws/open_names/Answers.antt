use Rattle.accountability.proofs.Naming.{open_names}
use Rattle.accountability.proofs.laws.open_names.Goals as goal

pub returns : goal.returns
returns c = open_names
