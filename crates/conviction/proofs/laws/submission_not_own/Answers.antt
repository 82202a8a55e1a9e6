use Rattle.conviction.proofs.Submissions.{submission_not_own}
use Rattle.conviction.proofs.laws.submission_not_own.Goals as goal

pub returns : goal.returns
returns c = submission_not_own
