use Rattle.std.proofs.Common.{◌≡◌, [], replicate}
use Rattle.judge_core.proofs.pad.no_pads.Given as goal

-- so many are made
abbrev pub invariant-loop : goal.invariant-loop
invariant-loop l = l.row.items ≡ replicate l.counter []
