use Rattle.shuffle_blame.proofs.Permutations.{permutations_are_found}
use Rattle.shuffle_blame.proofs.Turns.{lists_are_stripped}
use Rattle.shuffle_blame.proofs.laws.lists_are_stripped.Goals as goal

pub returns-clause-order : goal.returns-clause-order
returns-clause-order c = permutations_are_found

pub returns-clause-lists : goal.returns-clause-lists
returns-clause-lists c = lists_are_stripped
