use Rattle.std.proofs.Common.{◌≡◌, length}
use Rattle.shuffle_core.specs.Shuffle.{has_equal}
use Rattle.shuffle_core.proofs.turn.has_equal.Given as goal

-- what is left says whether an entry stands in the list twice
abbrev pub invariant-loop-entry : goal.invariant-loop-entry
invariant-loop-entry l = has_equal l.list ≡ has_equal l.rest

abbrev pub decreases-loop-entry : goal.decreases-loop-entry
decreases-loop-entry l = length l.rest
