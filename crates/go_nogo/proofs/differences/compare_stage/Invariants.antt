use Rattle.std.proofs.Common.{◌≡◌, ◌<◌, ◌+◌, ℕ, None}
use Rattle.go_nogo.specs.Differences.{differing}
use Rattle.go_nogo.proofs.differences.compare_stage.Given as goal

abbrev pub invariant-loop-place : goal.invariant-loop-place
invariant-loop-place l = (earlier : ℕ) → earlier < l.place → differing l.a l.b (record { stage = l.stage; sender = earlier + 1 }) ≡ None
