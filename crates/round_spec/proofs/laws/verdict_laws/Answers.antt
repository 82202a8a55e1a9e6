use Rattle.round_spec.proofs.Verdicts.{faithful, final_b_ends, sparing_means_agreed, verdict_cases}
use Rattle.round_spec.proofs.laws.verdict_laws.Goals as goal

pub returns-clause-cases : goal.returns-clause-cases
returns-clause-cases c = verdict_cases

pub returns-clause-one_kind : goal.returns-clause-one_kind
returns-clause-one_kind c = faithful

pub returns-clause-agreed : goal.returns-clause-agreed
returns-clause-agreed c = sparing_means_agreed

pub returns-clause-final_b : goal.returns-clause-final_b
returns-clause-final_b c = final_b_ends
