use Rattle.round_spec.proofs.Unheard.{missing_are_unheard}
use Rattle.round_spec.proofs.Given.{first_posts_delivered, first_posts_name}
use Rattle.round_spec.proofs.laws.first_posts_are_delivered.Goals as goal

pub returns-clause-delivered : goal.returns-clause-delivered
returns-clause-delivered c = first_posts_delivered

pub returns-clause-name : goal.returns-clause-name
returns-clause-name c = first_posts_name

pub returns-clause-missing : goal.returns-clause-missing
returns-clause-missing c = missing_are_unheard
