use Rattle.round_spec.proofs.Justified.{first_bad_is_told, justified_exactly, posts_are_found}
use Rattle.round_spec.proofs.laws.justified_laws.Goals as goal

pub returns-clause-exactly : goal.returns-clause-exactly
returns-clause-exactly c = justified_exactly

pub returns-clause-posts : goal.returns-clause-posts
returns-clause-posts c = posts_are_found

pub returns-clause-first_bad : goal.returns-clause-first_bad
returns-clause-first_bad c = first_bad_is_told
