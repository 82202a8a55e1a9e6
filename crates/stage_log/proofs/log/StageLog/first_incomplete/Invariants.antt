use Rattle.std.proofs.Common.{◌≡◌, ◌<◌, ℕ, None}
use Rattle.stage_log.specs.Table.{incomplete_stage}
use Rattle.stage_log.proofs.log.StageLog.first_incomplete.Given as goal

abbrev pub invariant-loop-stage : goal.invariant-loop-stage
invariant-loop-stage l = (earlier : ℕ) → earlier < l.stage → incomplete_stage l.self earlier ≡ None
