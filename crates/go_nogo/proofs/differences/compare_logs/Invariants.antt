use Rattle.std.proofs.Common.{◌≡◌, ◌<◌, ℕ, None}
use Rattle.go_nogo.specs.Differences.{difference_at}
use Rattle.go_nogo.proofs.differences.compare_logs.Given as goal

abbrev pub invariant-loop-stage : goal.invariant-loop-stage
invariant-loop-stage l = (earlier : ℕ) → earlier < l.stage → difference_at l.a l.b earlier ≡ None
