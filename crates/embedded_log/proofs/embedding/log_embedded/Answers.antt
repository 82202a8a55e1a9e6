use Rattle.group_roster.specs.Given.{roster_of}
use Rattle.embedded_log.proofs.Justified.{unjustified_by}
use Rattle.embedded_log.proofs.embedding.log_embedded.Goals as goal

pub returns-in-Err-Bad-clause-bad : goal.returns-in-Err-Bad-clause-bad
returns-in-Err-Bad-clause-bad c = λ none. unjustified_by (roster_of c.args.roster.now) c.args.round c.args.content.now _
    (rw c.in-Err-Bad.field-0-is at c.in-Err-Bad.ensures.exact)
