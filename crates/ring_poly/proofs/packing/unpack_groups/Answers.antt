use Rattle.std.proofs.Common.{◌≡◌, ◌+◌, ◌*◌, ◌≤◌, length, arith, rules}
use Rattle.ring_poly.proofs.Packings.{unpack_next}
use Rattle.ring_poly.proofs.packing.unpack_groups.Goals as goal

pub loop-group-preserved : goal.loop-group-preserved
loop-group-preserved c =
    let g = c.loop-group.group in
    let room : 4 * g + 4 ≤ length c.loop-group.coefficients = omega arith in
    let places : 7 * g + 7 ≤ length c.args.bytes.now = omega arith in
    let part : length c.unpack_group.new.coefficients ≡ 4 = search rules in
    unpack_next g c.args.bytes.now c.loop-group.coefficients c.unpack_group.new.coefficients places room part c.loop-group.invariant
    c.unpack_group.ensures
