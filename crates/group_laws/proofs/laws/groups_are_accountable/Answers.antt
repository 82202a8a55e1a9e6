use Rattle.group_laws.proofs.Accountable.{is_accountable}
use Rattle.group_laws.proofs.laws.groups_are_accountable.Goals as goal

pub returns : goal.returns
returns c = is_accountable
