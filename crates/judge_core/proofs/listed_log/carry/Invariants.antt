use Rattle.std.proofs.Common.{ℕ, List, [], take}
use Rattle.stage_log.specs.Running.{Carries}
use Rattle.judge_core.specs.PadLog.{contents_said}
use Rattle.judge_core.proofs.listed_log.carry.Given as goal

-- the posts before this one are taken
abbrev pub invariant-loop-one : goal.invariant-loop-one
invariant-loop-one l = (view : List ℕ) → Carries l.fn.running view [] → Carries l.running view (contents_said (take l.one-index l.others))
