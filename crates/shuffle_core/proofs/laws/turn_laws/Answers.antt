use Rattle.shuffle_core.proofs.Turns.{equals_are_found, distinct_are_found, permutation_keeps, turn_permutes, turn_says_bodies, turn_aborts}
use Rattle.shuffle_core.proofs.laws.turn_laws.Goals as goal

pub returns-clause-equals : goal.returns-clause-equals
returns-clause-equals c = equals_are_found

pub returns-clause-distinct : goal.returns-clause-distinct
returns-clause-distinct c = distinct_are_found

pub returns-clause-permutation : goal.returns-clause-permutation
returns-clause-permutation c = permutation_keeps

pub returns-clause-permutes : goal.returns-clause-permutes
returns-clause-permutes c = turn_permutes

pub returns-clause-bodies : goal.returns-clause-bodies
returns-clause-bodies c = turn_says_bodies

pub returns-clause-aborts : goal.returns-clause-aborts
returns-clause-aborts c = turn_aborts
