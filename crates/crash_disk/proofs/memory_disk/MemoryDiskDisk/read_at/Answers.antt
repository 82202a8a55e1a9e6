use Rattle.std.proofs.Common.{◌∙◌, ap, sym}
use Rattle.crash_disk.specs.Memory.{DiskState}
use Rattle.crash_disk.specs.Naming.{is_chosen}
use Rattle.crash_disk.proofs.Disks.{passes_look, still}
use Rattle.crash_disk.proofs.Named.{look_beside, never_done, unchosen_looks}
use Rattle.crash_disk.proofs.memory_disk.MemoryDiskDisk.read_at.Goals.{in-Done, in-Failed}
use Rattle.crash_disk.proofs.memory_disk.MemoryDiskDisk.read_at.Goals as goal

pub returns-clause-time : goal.returns-clause-time
returns-clause-time c = (passes_look _ c.args.self.now c.look.new.self c.look.ensures.after).time

pub returns-clause-images : goal.returns-clause-images
returns-clause-images c = (still _ c.args.self.now c.look.new.self c.look.ensures.after).images

pub returns-clause-beside : goal.returns-clause-beside
returns-clause-beside c = look_beside _ c.args.self.now c.look.new.self c.look.ensures.after

pub returns-clause-unchosen : goal.returns-clause-unchosen
returns-clause-unchosen c = λ none.
    let ready = c.is_chosen-ready.ensures ∙ ap (λ (d : DiskState). is_chosen d.naming) c.self.view_is in
    let failed = unchosen_looks c.args.self.now c.is_chosen-ready.result c.look.result c.look.ensures.answer ready none in
    elim c.match-look.branch [ in-Done w ↦ absurd (never_done (sym failed ∙ w.in-Done.is)) | in-Failed w ↦ w.result-is ]
