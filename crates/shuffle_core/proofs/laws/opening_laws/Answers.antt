use Rattle.shuffle_core.proofs.Submitted.{opens_to_what_is_wrapped, opens_in_parts, submission_opens, submission_adds}
use Rattle.shuffle_core.proofs.laws.opening_laws.Goals as goal

pub returns-clause-wrapped : goal.returns-clause-wrapped
returns-clause-wrapped c = opens_to_what_is_wrapped

pub returns-clause-parts : goal.returns-clause-parts
returns-clause-parts c = opens_in_parts

pub returns-clause-submission : goal.returns-clause-submission
returns-clause-submission c = submission_opens

pub returns-clause-longer : goal.returns-clause-longer
returns-clause-longer c = submission_adds
