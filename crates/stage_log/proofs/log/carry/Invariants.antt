use Rattle.std.proofs.Common.{ℕ, List, [], take}
use Rattle.stage_log.specs.Log.{contents_in}
use Rattle.stage_log.specs.Running.{Carries}
use Rattle.stage_log.proofs.log.carry.Given as goal

abbrev pub invariant-loop-kept : goal.invariant-loop-kept
invariant-loop-kept l = (view : List ℕ) → Carries l.fn.running view [] → Carries l.running view (contents_in (take l.kept-index l.places))
