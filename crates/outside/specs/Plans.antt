-- Plans of failing calls, by which doubles in memory fail.
use Rattle.std.specs.Prelude.{ℕ, ◌==◌, Bool, List, if◌then◌else◌}
use Rattle.std.specs.List.{list_any}
use Rattle.outside.specs.Faults.{counted}

-- the numbers, from 1, of the calls that fail, and how many calls and faults were counted
pub record PlanState : Type 0 where
  pub failing : List ℕ
  pub calls : ℕ
  pub faults : ℕ

-- the plan of these failing calls before any call
abbrev pub plan_of : List ℕ → PlanState
plan_of failing = record { failing = failing; calls = 0; faults = 0 }

-- whether the next call is one that fails
abbrev pub fails_next : PlanState → Bool
fails_next plan = list_any (λ call. call == counted plan.calls) plan.failing

-- the plan with one more call counted, and with one more fault counted
abbrev pub call_counted : PlanState → PlanState
call_counted plan = record { failing = plan.failing; calls = counted plan.calls; faults = plan.faults }

abbrev pub fault_counted : PlanState → PlanState
fault_counted plan = record { failing = plan.failing; calls = plan.calls; faults = counted plan.faults }

-- the plan behind a call that fails just where it is one of those that fail
abbrev pub after_call : PlanState → PlanState
after_call plan = if fails_next plan then fault_counted (call_counted plan) else call_counted plan
