use Rattle.accountability.proofs.Ciphertexts.{place_opens, places_differ}
use Rattle.accountability.proofs.laws.places_open.Goals as goal

pub returns-clause-opens : goal.returns-clause-opens
returns-clause-opens c = place_opens

pub returns-clause-differ : goal.returns-clause-differ
returns-clause-differ c = places_differ
