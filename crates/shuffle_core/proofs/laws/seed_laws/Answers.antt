use Rattle.shuffle_core.proofs.LayerSeeds.{seeds_are_messages, seeds_are_by_layer}
use Rattle.shuffle_core.proofs.laws.seed_laws.Goals as goal

pub returns-clause-messages : goal.returns-clause-messages
returns-clause-messages c = seeds_are_messages

pub returns-clause-by_layer : goal.returns-clause-by_layer
returns-clause-by_layer c = seeds_are_by_layer
