use Rattle.std.proofs.Common.{◌≡◌, ◌<◌, ℕ, None}
use Rattle.closing_verdict.specs.Telling.{wrong_at}
use Rattle.closing_verdict.proofs.seeds.wrong_seed.Given as goal

-- no seed before this place is wrong
abbrev pub invariant-loop-place : goal.invariant-loop-place
invariant-loop-place l = (k : ℕ) → k < l.place → wrong_at l.seeds l.keys k ≡ None
