use Rattle.round_spec.proofs.Votes.{not_unanimous_blames}
use Rattle.round_spec.proofs.laws.not_unanimous_blames.Goals as goal

pub returns : goal.returns
returns c = not_unanimous_blames
