use Rattle.std.proofs.Common.{◌∙◌, ap, subst}
use Rattle.crash_disk.specs.Memory.{DiskState, contents_of}
use Rattle.crash_disk.specs.Picks.{AreImagesOf}
use Rattle.crash_disk.proofs.Picked.{image_shown, picked_left}
use Rattle.crash_disk.proofs.memory_disk.MemoryDisk.crash.Goals as goal

pub returns-clause-left : goal.returns-clause-left
returns-clause-left c =
    let shown = subst (λ (d : DiskState). AreImagesOf (contents_of d) c.self.inside.images) c.self.view_is c.self.invariant.images in
    let image = c.picked.ensures.value ∙ image_shown c.args.self.now c.self.inside.images c.args.pick shown in
    let room = ap (λ (d : DiskState). d.room) c.self.view_is in
    let naming = c.in_ok-copy.ensures ∙ ap (λ (d : DiskState). d.naming) c.self.view_is in
    rw (image, room, naming, c.new.ensures.items) at c.with.ensures

pub returns-clause-image : goal.returns-clause-image
returns-clause-image c =
    picked_left c.args.self.now c.self.inside.images c.args.pick
    (subst (λ (d : DiskState). AreImagesOf (contents_of d) c.self.inside.images) c.self.view_is c.self.invariant.images)

pub returns-in_err-copy-clause-image : goal.returns-in_err-copy-clause-image
returns-in_err-copy-clause-image c =
    picked_left c.args.self.now c.self.inside.images c.args.pick
    (subst (λ (d : DiskState). AreImagesOf (contents_of d) c.self.inside.images) c.self.view_is c.self.invariant.images)
