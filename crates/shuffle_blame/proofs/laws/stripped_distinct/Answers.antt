use Rattle.shuffle_blame.proofs.Layers.{stripped_are_distinct}
use Rattle.shuffle_blame.proofs.laws.stripped_distinct.Goals as goal

pub returns : goal.returns
returns c = stripped_are_distinct
