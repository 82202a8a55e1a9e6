use Rattle.group_spec.proofs.Deliveries.{deliveries_were_posted}
use Rattle.group_spec.proofs.laws.deliveries_posted.Goals as goal

pub returns : goal.returns
returns c = deliveries_were_posted
