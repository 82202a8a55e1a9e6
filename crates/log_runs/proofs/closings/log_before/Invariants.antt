use Rattle.go_nogo.specs.Stands.{StandAll}
use Rattle.log_runs.proofs.closings.log_before.Given as goal

-- all that is kept so far stands
abbrev pub invariant-loop-earlier : goal.invariant-loop-earlier
invariant-loop-earlier l = StandAll l.log
