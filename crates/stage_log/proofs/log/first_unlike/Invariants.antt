use Rattle.std.proofs.Common.{◌≡◌, ◌<◌, ℕ, None}
use Rattle.stage_log.specs.Log.{unlike_at}
use Rattle.stage_log.proofs.log.first_unlike.Given as goal

abbrev pub invariant-loop-place : goal.invariant-loop-place
invariant-loop-place l = (earlier : ℕ) → earlier < l.place → unlike_at l.view l.places earlier ≡ None
