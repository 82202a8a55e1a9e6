use Rattle.member_spec.proofs.Standing.{open_stand_at_first}
use Rattle.member_spec.proofs.laws.open_members_wait.Goals as goal

pub returns : goal.returns
returns c = open_stand_at_first
