use Rattle.std.proofs.Common.{slice_index, arith}
use Rattle.sha_lanes.proofs.FourLanes.{lane-lt}
use Rattle.sha_lanes.proofs.Rotations.{three_rotations}
use Rattle.sha_lanes.proofs.words.big_sigma1.Goals as goal

pub returns : goal.returns
returns c j below =
    rw (
      c.rotate_right-3.ensures j below,
      c.xor-both.ensures j below,
      c.rotate_right-2.ensures j below,
      c.xor-far.ensures j below,
      c.rotate_right.ensures j below,
    )
    (three_rotations (slice_index c.args.x j) 6 5 14 (lane-lt c.args.x c.fits-x j below) (omega arith) (omega arith) (omega arith) (omega arith))
