use Rattle.honest_say.proofs.Staying.{items_stay, keys_stay, slots_stay}
use Rattle.honest_say.proofs.laws.what_was_said_stays.Goals as goal

pub returns-clause-keys : goal.returns-clause-keys
returns-clause-keys c = keys_stay

pub returns-clause-items : goal.returns-clause-items
returns-clause-items c = items_stay

pub returns-clause-slots : goal.returns-clause-slots
returns-clause-slots c = slots_stay
