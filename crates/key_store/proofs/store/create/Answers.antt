use Rattle.key_store.proofs.Making.{if_some, untouched}
use Rattle.key_store.proofs.store.create.Goals as goal

pub returns-in_err-secret-clause-moments : goal.returns-in_err-secret-clause-moments
returns-in_err-secret-clause-moments g c =
    if_some _ (untouched g.D.Disk.file g.D.Disk.may_leave g.D.Disk.moment g.D.Disk.left_since g.met.D.Disk.only_now c.args.disk.now)
