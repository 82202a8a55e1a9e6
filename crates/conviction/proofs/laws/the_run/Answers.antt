use Rattle.conviction.proofs.Posts.{the_run}
use Rattle.conviction.proofs.laws.the_run.Goals as goal

pub returns : goal.returns
returns c = the_run
