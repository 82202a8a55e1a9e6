use Rattle.std.proofs.Common.{ℕ, ◌<◌, [], get_or}
use Rattle.group_roster.specs.Roster.{IsKey}
use Rattle.group_roster.proofs.spelling.all_read.Given as goal

abbrev pub invariant-loop-key : goal.invariant-loop-key
invariant-loop-key l = (i : ℕ) → i < l.key-index → IsKey (get_or l.keys i [])
