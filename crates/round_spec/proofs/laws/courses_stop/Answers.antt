use Rattle.round_spec.proofs.Stopping.{course_stops}
use Rattle.round_spec.proofs.laws.courses_stop.Goals as goal

pub returns : goal.returns
returns c = course_stops
