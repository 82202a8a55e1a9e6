use Rattle.std.proofs.Common.{◌≡◌}
use Rattle.phase_message.specs.Stages.{shape_of}
use Rattle.go_nogo.specs.Stands.{StandAll}
use Rattle.closing_verdict.specs.Shorts.{KeepsShort}
use Rattle.closing_vectors.proofs.judged.kept.Given as goal

-- what is kept stands and is short
abbrev pub invariant-loop-place : goal.invariant-loop-place
invariant-loop-place l = (l.log.shape ≡ shape_of l.fn.shape) × StandAll l.log × KeepsShort l.log
