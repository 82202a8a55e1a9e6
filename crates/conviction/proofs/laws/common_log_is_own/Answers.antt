use Rattle.conviction.proofs.Replays.{common_log_is_own}
use Rattle.conviction.proofs.laws.common_log_is_own.Goals as goal

pub returns : goal.returns
returns c = common_log_is_own
