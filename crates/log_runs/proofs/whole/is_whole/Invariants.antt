use Rattle.std.proofs.Common.{◌≡◌, ◌<◌, ℕ, true}
use Rattle.stage_log.specs.Table.{is_complete}
use Rattle.log_runs.proofs.whole.is_whole.Given as goal

-- the stages so far are complete
abbrev pub invariant-loop-earlier : goal.invariant-loop-earlier
invariant-loop-earlier l = (earlier : ℕ) → earlier < l.earlier → is_complete l.log earlier ≡ true
