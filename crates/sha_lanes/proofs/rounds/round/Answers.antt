use Rattle.std.proofs.Common.{refl}
use Rattle.sha_lanes.proofs.FourLanes.{splat-lane}
use Rattle.sha_lanes.proofs.Schedules.{slice_index-lane}
use Rattle.sha_lanes.proofs.rounds.round.Goals as goal

pub returns : goal.returns
returns c j below =
    let v = slice_index-lane c.args.v j in
    rw (
      c.add-3.ensures j below,
      c.add-4.ensures j below,
      c.add-temp1.ensures j below,
      c.add-2.ensures j below,
      splat-lane c.args.k j below,
      c.add-chosen.ensures j below,
      c.add.ensures j below,
      c.big_sigma1.ensures j below,
      c.ch.ensures j below,
      c.add-temp2.ensures j below,
      c.big_sigma0.ensures j below,
      c.maj.ensures j below,
      v 0,
      v 1,
      v 2,
      v 3,
      v 4,
      v 5,
      v 6,
      v 7,
    ) refl
