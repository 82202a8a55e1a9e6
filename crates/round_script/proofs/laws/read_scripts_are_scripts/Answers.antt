use Rattle.round_script.proofs.ReadLemmas.{read_is}
use Rattle.round_script.proofs.laws.read_scripts_are_scripts.Goals as goal

pub returns : goal.returns
returns c = read_is
