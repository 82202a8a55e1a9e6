use Rattle.phase_message.proofs.Closings.{closing-follows}
use Rattle.phase_message.proofs.laws.closings_follow_votes.Goals as goal

pub returns : goal.returns
returns c = closing-follows
