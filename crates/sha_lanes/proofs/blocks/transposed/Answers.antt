use Rattle.std.proofs.Common.{refl}
use Rattle.sha_lanes.proofs.FourLanes.{four_numbers}
use Rattle.sha_lanes.proofs.blocks.transposed.Goals as goal

pub returns : goal.returns
returns c = rw (four_numbers c.args.a c.fits-a.0, four_numbers c.args.b c.fits-b.0) refl
