use Rattle.accountability.proofs.OnePost.{bad_log_accepted}
use Rattle.accountability.proofs.laws.bad_log_accepted.Goals as goal

pub returns : goal.returns
returns c = bad_log_accepted
