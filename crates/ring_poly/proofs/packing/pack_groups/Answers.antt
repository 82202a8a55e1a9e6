use Rattle.std.proofs.Common.{◌≡◌, ◌+◌, ◌*◌, ◌≤◌, length, arith, rules}
use Rattle.ring_poly.proofs.Packings.{pack_next}
use Rattle.ring_poly.proofs.packing.pack_groups.Goals as goal

pub loop-group-preserved : goal.loop-group-preserved
loop-group-preserved c =
    let g = c.loop-group.group in
    let room : 4 * g + 4 ≤ length c.args.coefficients.now = omega arith in
    let places : 7 * g + 7 ≤ length c.loop-group.bytes = omega arith in
    let part : length c.pack_group.new.bytes ≡ 7 = search rules in
    pack_next g c.args.coefficients.now c.loop-group.bytes c.pack_group.new.bytes room places part c.loop-group.invariant
    c.pack_group.ensures
