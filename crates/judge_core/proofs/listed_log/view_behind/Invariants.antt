use Rattle.std.proofs.Common.{[]}
use Rattle.phase_message.specs.Stages.{shape_of}
use Rattle.stage_log.specs.Log.{view_of}
use Rattle.stage_log.specs.Running.{Carries}
use Rattle.judge_core.specs.PadLog.{contents_said}
use Rattle.judge_core.proofs.listed_log.view_behind.Given as goal

-- the stages before this one are seen
abbrev pub invariant-loop-stage : goal.invariant-loop-stage
invariant-loop-stage l = Carries l.running (view_of (shape_of l.shape) (contents_said l.log) l.stage) []
