use Rattle.member_spec.proofs.Orders.{order_changes_nothing}
use Rattle.member_spec.proofs.laws.order_changes_nothing.Goals as goal

pub returns : goal.returns
returns c = order_changes_nothing
