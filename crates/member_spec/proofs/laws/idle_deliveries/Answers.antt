use Rattle.member_spec.proofs.Idle.{idle_leaves_all}
use Rattle.member_spec.proofs.laws.idle_deliveries.Goals as goal

pub returns : goal.returns
returns c = idle_leaves_all
