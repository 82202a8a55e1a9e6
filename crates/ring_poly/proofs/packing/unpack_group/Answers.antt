use Rattle.std.proofs.Common.{◌%◌, ◌/◌, sym, ap, ◌∙◌}
use Rattle.ring_poly.specs.Packing.{group_of}
use Rattle.ring_poly.proofs.Packings.{four_set, seven_unpacked}
use Rattle.ring_poly.proofs.packing.unpack_group.Goals as goal

pub returns : goal.returns
returns c =
    let n = c.number_of-number.result in
    four_set c.args.coefficients.now (n % 16384) (n / 16384 % 16384) (n / 268435456 % 16384) (n / 4398046511104 % 16384)
    c.requires.coefficients
    ∙ ap group_of c.number_of-number.ensures
    ∙ sym (seven_unpacked c.args.bytes.now c.requires.bytes)
