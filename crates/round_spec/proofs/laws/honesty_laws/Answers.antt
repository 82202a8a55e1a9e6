use Rattle.round_spec.proofs.Honesty.{own_posts_check, own_posts_read, run_after_is_honest, settled_is_log, settled_posts_read, settled_run_is_honest, unforged_is_said}
use Rattle.round_spec.proofs.laws.honesty_laws.Goals as goal

pub returns-clause-read : goal.returns-clause-read
returns-clause-read c = settled_posts_read

pub returns-clause-own_reads : goal.returns-clause-own_reads
returns-clause-own_reads c = own_posts_read

pub returns-clause-log : goal.returns-clause-log
returns-clause-log c = settled_is_log

pub returns-clause-own : goal.returns-clause-own
returns-clause-own c = own_posts_check

pub returns-clause-settled : goal.returns-clause-settled
returns-clause-settled c = settled_run_is_honest

pub returns-clause-after : goal.returns-clause-after
returns-clause-after c = run_after_is_honest

pub returns-clause-said : goal.returns-clause-said
returns-clause-said c = unforged_is_said
