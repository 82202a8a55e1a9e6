use Rattle.std.proofs.Common.{◌≡◌, ℕ, ◌<◌, true, get_or}
use Rattle.wire_core.specs.Places.{has_byte}
use Rattle.wire_core.proofs.places.first_unlike.Given as goal

abbrev pub invariant-loop-p : goal.invariant-loop-p
invariant-loop-p l = (j : ℕ) → j < l.p → has_byte l.bytes j (get_or l.front j 0) ≡ true
