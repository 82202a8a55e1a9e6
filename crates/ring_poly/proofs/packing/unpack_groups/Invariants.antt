use Rattle.std.proofs.Common.{◌≡◌, ◌*◌, take}
use Rattle.ring_poly.specs.Packing.{unpacked}
use Rattle.ring_poly.proofs.packing.unpack_groups.Given as goal

-- the groups below are unpacked
abbrev pub invariant-loop-group : goal.invariant-loop-group
invariant-loop-group l = take (4 * l.group) l.coefficients ≡ unpacked (take (7 * l.group) l.bytes)
