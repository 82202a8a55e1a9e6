use Rattle.crash_disk.proofs.Moments.{torn_nowhere}
use Rattle.crash_disk.proofs.laws.nothing_is_torn.Goals as goal

pub returns : goal.returns
returns c = torn_nowhere
