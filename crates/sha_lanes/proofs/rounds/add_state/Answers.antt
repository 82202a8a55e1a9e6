use Rattle.std.proofs.Common.{refl}
use Rattle.sha_lanes.proofs.Schedules.{slice_index-lane}
use Rattle.sha_lanes.proofs.rounds.add_state.Goals as goal

pub returns : goal.returns
returns c j below =
    let h = slice_index-lane c.args.h j in
    let v = slice_index-lane c.args.v j in
    rw (
      c.add.ensures j below,
      c.add-2.ensures j below,
      c.add-3.ensures j below,
      c.add-4.ensures j below,
      c.add-5.ensures j below,
      c.add-6.ensures j below,
      c.add-7.ensures j below,
      c.add-8.ensures j below,
      h 0,
      h 1,
      h 2,
      h 3,
      h 4,
      h 5,
      h 6,
      h 7,
      v 0,
      v 1,
      v 2,
      v 3,
      v 4,
      v 5,
      v 6,
      v 7,
    ) refl
