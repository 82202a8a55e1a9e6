use Rattle.sha_lanes.proofs.FourLanes.{has_majority}
use Rattle.sha_lanes.proofs.words.maj.Goals as goal

pub returns : goal.returns
returns c = has_majority c.args.x c.fits-x.0 c.args.y c.fits-y.0 c.args.z c.fits-z.0
