use Rattle.round_spec.proofs.Rows.{one_per_slot, own_row, row_past, run_of_content, run_unique}
use Rattle.round_spec.proofs.laws.row_laws.Goals as goal

pub returns-clause-own : goal.returns-clause-own
returns-clause-own c = own_row

pub returns-clause-past : goal.returns-clause-past
returns-clause-past c = row_past

pub returns-clause-run : goal.returns-clause-run
returns-clause-run c = run_of_content

pub returns-clause-one_run : goal.returns-clause-one_run
returns-clause-one_run c = run_unique

pub returns-clause-one_per_slot : goal.returns-clause-one_per_slot
returns-clause-one_per_slot c = one_per_slot
