use Rattle.round_spec.proofs.Settling.{own_posts_settled}
use Rattle.round_spec.proofs.laws.own_posts_settled.Goals as goal

pub returns : goal.returns
returns c = own_posts_settled
