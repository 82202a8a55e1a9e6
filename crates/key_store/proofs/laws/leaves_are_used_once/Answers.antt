use Rattle.key_store.proofs.Histories.{is_used_once}
use Rattle.key_store.proofs.laws.leaves_are_used_once.Goals as goal

pub returns : goal.returns
returns g c = is_used_once g.D.Disk.file g.D.Disk.may_leave g.D.Disk.moment g.D.Disk.left_since
