use Rattle.std.proofs.Common.{◌≡◌, length}
use Rattle.shuffle_blame.specs.Replay.{is_permutation}
use Rattle.shuffle_blame.proofs.order.is_permutation.Given as goal

-- what is left says whether the list is the bodies in some order
abbrev pub invariant-loop-entry : goal.invariant-loop-entry
invariant-loop-entry l = is_permutation l.list l.fn.bodies.items ≡ is_permutation l.rest l.bodies.items

abbrev pub decreases-loop-entry : goal.decreases-loop-entry
decreases-loop-entry l = length l.rest
