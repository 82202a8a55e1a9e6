use Rattle.group_laws.proofs.Undisturbed.{undisturbed_groups_are_done}
use Rattle.group_laws.proofs.laws.undisturbed_groups_are_done.Goals as goal

pub returns : goal.returns
returns c = undisturbed_groups_are_done
