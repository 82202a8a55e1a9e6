use Rattle.member_spec.proofs.PlainLaws.{honest_is_plain}
use Rattle.member_spec.proofs.laws.honest_is_plain.Goals as goal

pub returns : goal.returns
returns c = honest_is_plain
