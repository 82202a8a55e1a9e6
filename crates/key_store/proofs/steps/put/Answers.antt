use Rattle.std.proofs.Common.{refl}
use Rattle.key_store.proofs.Files.{is_put, leaves-put, leaves-write, rest_mirrors, synced_rest}
use Rattle.key_store.proofs.steps.put.Goals as goal

pub returns-in-Done-clause-done : goal.returns-in-Done-clause-done
returns-in-Done-clause-done g c = λ done.
    (is_put _ _ _ c.args.image.now c.args.bytes.now c.args.at c.told-image c.requires.within (rest_mirrors _ _ _ c.requires.current)
    (c.in-Done.ensures.written refl) c.settle.ensures.kept).done

pub returns-in-Done-clause-current : goal.returns-in-Done-clause-current
returns-in-Done-clause-current g c = λ done.
    rw c.overwrite.ensures
    (synced_rest _ _ _ _ c.settle.ensures.kept (is_put _ _ _ c.args.image.now c.args.bytes.now c.args.at c.told-image c.requires.within
    (rest_mirrors _ _ _ c.requires.current)
    (c.in-Done.ensures.written refl) c.settle.ensures.kept).current (c.settle.ensures.durable done))

pub returns-in-Done-clause-torn : goal.returns-in-Done-clause-torn
returns-in-Done-clause-torn g c =
    (is_put _ _ _ c.args.image.now c.args.bytes.now c.args.at c.told-image c.requires.within (rest_mirrors _ _ _ c.requires.current)
    (c.in-Done.ensures.written refl) c.settle.ensures.kept).torn

pub returns-in-Done-clause-moments : goal.returns-in-Done-clause-moments
returns-in-Done-clause-moments g c =
    leaves-put g.D.Disk.file g.D.Disk.may_leave g.D.Disk.moment g.D.Disk.left_since g.met.D.Disk.only_now c.args.disk.now
    c.write_at.new.self c.settle.new.disk
    c.args.image.now _ _ c.requires.current c.write_at.ensures.images c.write_at.ensures.time c.settle.ensures.images c.settle.ensures.time

pub returns-in_default-clause-moments : goal.returns-in_default-clause-moments
returns-in_default-clause-moments g c =
    leaves-write g.D.Disk.file g.D.Disk.may_leave g.D.Disk.moment g.D.Disk.left_since g.met.D.Disk.only_now c.args.disk.now
    c.write_at.new.self
    c.args.image.now _ _ c.requires.current c.write_at.ensures.images c.write_at.ensures.time
