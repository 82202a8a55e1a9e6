use Rattle.shuffle_blame.proofs.Turns.{last_list_has}
use Rattle.shuffle_blame.proofs.laws.last_list_has.Goals as goal

pub returns : goal.returns
returns c = last_list_has
