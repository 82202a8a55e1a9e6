use Rattle.round_spec.proofs.Courses.{course-adds, course-grows, course-end-unique}
use Rattle.round_spec.proofs.laws.course_laws.Goals as goal

pub returns-clause-adds : goal.returns-clause-adds
returns-clause-adds c = course-adds

pub returns-clause-grows : goal.returns-clause-grows
returns-clause-grows c = course-grows

pub returns-clause-end_unique : goal.returns-clause-end_unique
returns-clause-end_unique c = course-end-unique
