use Rattle.group_roster.specs.Given.{roster_of}
use Rattle.std.proofs.Common.{arith}
use Rattle.offline_commands.proofs.Showing.{file-passes}
use Rattle.offline_commands.proofs.show.check_file.Goals as goal

pub returns-in-Ok-check-clause-passes : goal.returns-in-Ok-check-clause-passes
returns-in-Ok-check-clause-passes c =
    file-passes (roster_of c.args.roster.now) c.args.round c.args.bytes.now
    (record { content = c.in-Ok.post.content; signature = c.in-Ok.post.signature }) c.in-Ok-check.content _
    (λ i. omega (arith, c.type_inv.bytes i)) c.in-Ok.ensures.exact c.in-Ok-check.ensures
