use Rattle.std.proofs.Common.{refl, arith}
use Rattle.key_store.proofs.Files.{made_mirrored, rest_mirrors, synced_rest}
use Rattle.key_store.proofs.Made.{made_keeps, made_told}
use Rattle.key_store.proofs.Making.{front_synced, front_written, gate_put, if_some}
use Rattle.key_store.proofs.store.write_made.Goals as goal

pub put-requires-clause-current : goal.put-requires-clause-current
put-requires-clause-current g c =
    synced_rest _ _ _ _ c.sync.ensures.kept (made_mirrored _ _ _ _ c.made-image.ensures.whole (c.in-Done.ensures.written refl)
    c.sync.ensures.kept)
    (c.in-Done-sync.ensures.durable refl)

pub returns-in-Done-sync-clause-reads : goal.returns-in-Done-sync-clause-reads
returns-in-Done-sync-clause-reads g c = λ done.
    made_told _ c.args.content.now (omega arith) (omega arith)
    (rw (← c.made-image.ensures.value, ← c.put.ensures.image) (rest_mirrors _ _ _ (c.put.ensures.current done)))

pub returns-in-Done-sync-clause-keeps : goal.returns-in-Done-sync-clause-keeps
returns-in-Done-sync-clause-keeps g c = λ done. made_keeps c.args.content.now (omega arith) (omega arith)

pub returns-in-Failed-clause-moments : goal.returns-in-Failed-clause-moments
returns-in-Failed-clause-moments g c =
    if_some _ (front_written g.D.Disk.file g.D.Disk.may_leave g.D.Disk.moment g.D.Disk.left_since g.met.D.Disk.only_now c.args.disk.now
    c.write_at.new.self _
    c.made-image.ensures.whole c.write_at.ensures.images c.write_at.ensures.time)

pub returns-in-Failed-sync-clause-moments : goal.returns-in-Failed-sync-clause-moments
returns-in-Failed-sync-clause-moments g c =
    if_some _ (front_synced g.D.Disk.file g.D.Disk.may_leave g.D.Disk.moment g.D.Disk.left_since g.met.D.Disk.only_now c.args.disk.now
    c.write_at.new.self c.sync.new.self _
    c.made-image.ensures.whole c.write_at.ensures.images c.write_at.ensures.time c.sync.ensures.images c.sync.ensures.time)

pub returns-in-Done-sync-clause-moments : goal.returns-in-Done-sync-clause-moments
returns-in-Done-sync-clause-moments g c =
    let synced = front_synced g.D.Disk.file g.D.Disk.may_leave g.D.Disk.moment g.D.Disk.left_since g.met.D.Disk.only_now c.args.disk.now
    c.write_at.new.self c.sync.new.self _
    c.made-image.ensures.whole c.write_at.ensures.images c.write_at.ensures.time c.sync.ensures.images c.sync.ensures.time in
    gate_put g.D.Disk.file g.D.Disk.may_leave g.D.Disk.moment g.D.Disk.left_since g.met.D.Disk.only_now g.met.D.Disk.read_is_image
    c.args.disk.now c.sync.new.self c.put.new.disk _ _ _ c.made-image.ensures.whole (c.in-Done.ensures.written refl) c.sync.ensures.kept
    synced c.put.ensures.moments
