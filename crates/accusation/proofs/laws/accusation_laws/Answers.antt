use Rattle.accusation.proofs.AccusationLemmas.{holds_exactly, holds_looks_at_one, empty_item_refused, item_holds, states_name_members}
use Rattle.accusation.proofs.laws.accusation_laws.Goals as goal

pub returns-clause-exactly : goal.returns-clause-exactly
returns-clause-exactly c = holds_exactly

pub returns-clause-looks_at_one : goal.returns-clause-looks_at_one
returns-clause-looks_at_one c = holds_looks_at_one

pub returns-clause-empty_refused : goal.returns-clause-empty_refused
returns-clause-empty_refused c = empty_item_refused

pub returns-clause-item_holds : goal.returns-clause-item_holds
returns-clause-item_holds c = item_holds

pub returns-clause-names : goal.returns-clause-names
returns-clause-names c = states_name_members
