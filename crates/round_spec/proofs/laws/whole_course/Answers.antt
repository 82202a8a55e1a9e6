use Rattle.round_spec.proofs.Wholes.{whole_course}
use Rattle.round_spec.proofs.laws.whole_course.Goals as goal

pub returns : goal.returns
returns c = whole_course
