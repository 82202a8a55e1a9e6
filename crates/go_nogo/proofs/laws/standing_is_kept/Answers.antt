use Rattle.go_nogo.proofs.Standing.{stand-empty, stand-put, stand-read}
use Rattle.go_nogo.proofs.laws.standing_is_kept.Goals as goal

pub returns-clause-empty : goal.returns-clause-empty
returns-clause-empty c = stand-empty

pub returns-clause-put : goal.returns-clause-put
returns-clause-put c = stand-put

pub returns-clause-read : goal.returns-clause-read
returns-clause-read c = stand-read
