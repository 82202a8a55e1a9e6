use Rattle.std.proofs.Common.{◌≡◌, ◌*◌, take}
use Rattle.ring_poly.specs.Packing.{packed}
use Rattle.ring_poly.proofs.packing.pack_groups.Given as goal

-- the groups below are packed
abbrev pub invariant-loop-group : goal.invariant-loop-group
invariant-loop-group l = take (7 * l.group) l.bytes ≡ packed (take (4 * l.group) l.coefficients)
