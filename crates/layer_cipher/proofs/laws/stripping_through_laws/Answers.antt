use Rattle.layer_cipher.proofs.ThroughLemmas.{strips_through_exactly, strips_through_more, strips_through_in_any_order, strips_through_keeps}
use Rattle.layer_cipher.proofs.laws.stripping_through_laws.Goals as goal

pub returns-clause-exactly : goal.returns-clause-exactly
returns-clause-exactly c = strips_through_exactly

pub returns-clause-more : goal.returns-clause-more
returns-clause-more c = strips_through_more

pub returns-clause-in_any_order : goal.returns-clause-in_any_order
returns-clause-in_any_order c = strips_through_in_any_order

pub returns-clause-keeps : goal.returns-clause-keeps
returns-clause-keeps c = strips_through_keeps
