-- How much a member keeps.
use Rattle.std.proofs.Common.{refl}
use Rattle.member_spec.specs.Sizes.{GreatestOfEight, greatest_log}

pub greatest_of_eight : GreatestOfEight
unfolding greatest_log
greatest_of_eight = refl
