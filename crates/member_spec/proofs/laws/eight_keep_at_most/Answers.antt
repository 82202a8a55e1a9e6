use Rattle.member_spec.proofs.Bounds.{greatest_of_eight}
use Rattle.member_spec.proofs.laws.eight_keep_at_most.Goals as goal

pub returns : goal.returns
returns c = greatest_of_eight
