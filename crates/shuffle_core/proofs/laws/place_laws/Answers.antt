use Rattle.shuffle_core.proofs.Submitted.{place_is_least, place_is_found}
use Rattle.shuffle_core.proofs.laws.place_laws.Goals as goal

pub returns-clause-least : goal.returns-clause-least
returns-clause-least c = place_is_least

pub returns-clause-found : goal.returns-clause-found
returns-clause-found c = place_is_found
