use Rattle.std.proofs.Common.{rules, arith}
use Rattle.std.proofs.lemmas.Grind.{common_steps}
use Rattle.go_nogo.proofs.Unanimity.{unanimity}
use Rattle.go_nogo.proofs.votes.unanimous.Goals as goal

pub returns-in-Some-clause-value : goal.returns-in-Some-clause-value
returns-in-Some-clause-value c = first_of (search rules, grind (arith, common_steps))

pub returns-in-Some-clause-all : goal.returns-in-Some-clause-all
returns-in-Some-clause-all c = unanimity _ _ (returns-in-Some-clause-value c)
