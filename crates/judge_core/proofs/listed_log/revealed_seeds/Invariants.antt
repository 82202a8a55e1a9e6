use Rattle.phase_message.specs.Stages.{shape_of}
use Rattle.judge_core.specs.PadLog.{contents_said}
use Rattle.judge_core.proofs.PadReadings.{RevealedSoFar}
use Rattle.judge_core.proofs.listed_log.revealed_seeds.Given as goal

-- the earlier members revealed these
abbrev pub invariant-loop-sender : goal.invariant-loop-sender
invariant-loop-sender l = RevealedSoFar (shape_of l.shape) (contents_said l.log) l.sender l.seeds.items
