use Rattle.layer_cipher.proofs.StrippingLemmas.{strips_exactly, strips_unless_closed, strips_all, strips_in_any_order, key_strips}
use Rattle.layer_cipher.proofs.laws.stripping_laws.Goals as goal

pub returns-clause-exactly : goal.returns-clause-exactly
returns-clause-exactly c = strips_exactly

pub returns-clause-unless_closed : goal.returns-clause-unless_closed
returns-clause-unless_closed c = strips_unless_closed

pub returns-clause-all : goal.returns-clause-all
returns-clause-all c = strips_all

pub returns-clause-in_any_order : goal.returns-clause-in_any_order
returns-clause-in_any_order c = strips_in_any_order

pub returns-clause-key_strips : goal.returns-clause-key_strips
returns-clause-key_strips c = key_strips
