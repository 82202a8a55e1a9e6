use Rattle.sha_lanes.proofs.FourLanes.{shifts_right}
use Rattle.sha_lanes.proofs.words.shift_right.Goals as goal

pub returns : goal.returns
returns c = shifts_right c.args.k c.requires c.args.x c.fits-x.0
