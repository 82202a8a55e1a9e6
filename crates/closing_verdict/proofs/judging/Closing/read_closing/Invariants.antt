use Rattle.std.proofs.Common.{◌-◌}
use Rattle.std.specs.Prelude.{IfSome}
use Rattle.embedded_log.specs.Embedding.{IsKnown}
use Rattle.closing_verdict.specs.Judgement.{completed_of}
use Rattle.closing_verdict.proofs.Readings.{AreRead}
use Rattle.closing_verdict.proofs.judging.Closing.read_closing.Given as goal

-- the members so far, and what the last of them embeds
abbrev pub invariant-loop-member : goal.invariant-loop-member
invariant-loop-member l =
    AreRead (completed_of l.fn.self) (l.member - 1) l.all.items l.second
    × IfSome l.known (IsKnown (completed_of l.fn.self).roster l.fn.self.round)
