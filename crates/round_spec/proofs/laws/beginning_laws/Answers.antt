use Rattle.round_spec.proofs.Beginnings.{beginnings_are_honest, lists_are_honest, nothing_is_forged}
use Rattle.round_spec.proofs.Unforged.{keys_are_not_forged}
use Rattle.round_spec.proofs.laws.beginning_laws.Goals as goal

pub returns-clause-runs : goal.returns-clause-runs
returns-clause-runs c = beginnings_are_honest

pub returns-clause-lists : goal.returns-clause-lists
returns-clause-lists c = lists_are_honest

pub returns-clause-nothing : goal.returns-clause-nothing
returns-clause-nothing c = nothing_is_forged

pub returns-clause-keys : goal.returns-clause-keys
returns-clause-keys c = keys_are_not_forged
