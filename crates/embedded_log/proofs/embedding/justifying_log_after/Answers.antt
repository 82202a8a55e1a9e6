use Rattle.group_roster.specs.Given.{roster_of}
use Rattle.std.proofs.Common.{sym, ◌∙◌}
use Rattle.group_roster.specs.Roster.{shape_of_roster}
use Rattle.embedded_log.proofs.EmbeddedLogs.{spans}
use Rattle.embedded_log.proofs.Justified.{holds_embedded, justified_by}
use Rattle.embedded_log.proofs.embedding.justifying_log_after.Goals as goal

pub justified-requires-clause-holds : goal.justified-requires-clause-holds
justified-requires-clause-holds c =
    let keeps = rw c.in-Some.is at c.in_ok-log.ensures.keeps in
    holds_embedded (roster_of c.args.roster.now) c.args.round c.args.content.now c.in-Some.log keeps
    (spans (shape_of_roster (roster_of c.args.roster.now)) c.args.content.now c.requires.grammar c.requires.closing)

pub returns-then-branch-clause-justified : goal.returns-then-branch-clause-justified
returns-then-branch-clause-justified c =
    let keeps = rw c.in-Some.is at c.in_ok-log.ensures.keeps in
    let span = spans (shape_of_roster (roster_of c.args.roster.now)) c.args.content.now c.requires.grammar c.requires.closing in
    sym c.if-branch.true ∙ c.in_ok-justified.ensures ∙ justified_by (roster_of c.args.roster.now) c.args.round c.args.content.now
    c.in-Some.log keeps span

pub returns-else-branch-clause-justified : goal.returns-else-branch-clause-justified
returns-else-branch-clause-justified c =
    let keeps = rw c.in-Some.is at c.in_ok-log.ensures.keeps in
    let span = spans (shape_of_roster (roster_of c.args.roster.now)) c.args.content.now c.requires.grammar c.requires.closing in
    sym c.if-branch.false ∙ c.in_ok-justified.ensures ∙ justified_by (roster_of c.args.roster.now) c.args.round c.args.content.now
    c.in-Some.log keeps span
