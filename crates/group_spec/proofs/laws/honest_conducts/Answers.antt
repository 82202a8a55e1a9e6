use Rattle.group_spec.proofs.Plainness.{honest_are_plain}
use Rattle.group_spec.proofs.laws.honest_conducts.Goals as goal

pub returns : goal.returns
returns c = honest_are_plain
