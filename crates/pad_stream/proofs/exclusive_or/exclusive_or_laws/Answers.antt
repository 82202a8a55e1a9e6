use Rattle.pad_stream.proofs.ExclusiveOrLemmas.{exclusive_or_comm, exclusive_or_assoc, exclusive_or_undo}
use Rattle.pad_stream.proofs.exclusive_or.exclusive_or_laws.Goals as goal

pub returns-clause-commutes : goal.returns-clause-commutes
returns-clause-commutes c = exclusive_or_comm

pub returns-clause-associates : goal.returns-clause-associates
returns-clause-associates c = exclusive_or_assoc

pub returns-clause-undoes_itself : goal.returns-clause-undoes_itself
returns-clause-undoes_itself c = exclusive_or_undo
