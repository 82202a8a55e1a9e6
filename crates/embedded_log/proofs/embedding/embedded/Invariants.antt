use Rattle.group_roster.specs.Given.{roster_of}
use Rattle.embedded_log.proofs.EmbeddedLogs.{Embeds}
use Rattle.embedded_log.proofs.embedding.embedded.Given as goal

-- the posts before this place are found, and the log keeps them
abbrev pub invariant-loop-place : goal.invariant-loop-place
invariant-loop-place l = Embeds (roster_of l.roster) l.round l.content l.log l.place
