use Rattle.round_spec.proofs.Given.{lists_agree}
use Rattle.round_spec.proofs.GoLists.{votes_look_at_lists}
use Rattle.round_spec.proofs.laws.lists_agree.Goals as goal

pub returns-clause-replay : goal.returns-clause-replay
returns-clause-replay c = lists_agree

pub returns-clause-votes : goal.returns-clause-votes
returns-clause-votes c = votes_look_at_lists
