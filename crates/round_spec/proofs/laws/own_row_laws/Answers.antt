use Rattle.round_spec.proofs.OwnChecks.{own_post_checks, own_post_reads}
use Rattle.round_spec.proofs.OwnGrammar.{own_row_of_grammar, row_of_grammar}
use Rattle.round_spec.proofs.OwnLengths.{own_content_is_short}
use Rattle.round_spec.proofs.laws.own_row_laws.Goals as goal

pub returns-clause-grammar : goal.returns-clause-grammar
returns-clause-grammar c = own_row_of_grammar

pub returns-clause-any : goal.returns-clause-any
returns-clause-any c = row_of_grammar

pub returns-clause-short : goal.returns-clause-short
returns-clause-short c = own_content_is_short

pub returns-clause-reads : goal.returns-clause-reads
returns-clause-reads c = own_post_reads

pub returns-clause-checks : goal.returns-clause-checks
returns-clause-checks c = own_post_checks
