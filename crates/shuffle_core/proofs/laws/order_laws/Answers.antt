use Rattle.shuffle_core.proofs.Drawn.{drawn_order_permutes, entries_are_permuted}
use Rattle.shuffle_core.proofs.laws.order_laws.Goals as goal

pub returns-clause-order : goal.returns-clause-order
returns-clause-order c = drawn_order_permutes

pub returns-clause-entries : goal.returns-clause-entries
returns-clause-entries c = entries_are_permuted
