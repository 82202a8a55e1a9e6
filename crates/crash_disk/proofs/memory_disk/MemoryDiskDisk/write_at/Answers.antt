use Rattle.std.proofs.Common.{◌∙◌, ◌≤◌, length, ap, arith, refl, true}
use Rattle.crash_disk.specs.declared.disk.DiskAnswer.TheVariants.{Failed}
use Rattle.crash_disk.specs.declared.steps_taken.Step.TheVariants.{Synced}
use Rattle.crash_disk.specs.Memory.{DiskState, after_call, fails_step, file_of}
use Rattle.crash_disk.proofs.Disks.{fits_place, overwrites, passes_call}
use Rattle.crash_disk.specs.Naming.{is_chosen}
use Rattle.crash_disk.proofs.Named.{call_beside, look_beside, step_ready, unchosen_steps}
use Rattle.crash_disk.proofs.memory_disk.MemoryDiskDisk.write_at.Goals as goal

pub returns-clause-written : goal.returns-clause-written
unfolding file_of
returns-clause-written c =
    let is = c.step.ensures.after ∙ ap (after_call (fails_step c.args.self.now c.is_chosen-ready.result) c.args.self.now)
    c.write_step.ensures in
    let reads = ap length (c.self.invariant.images.file ∙ ap (λ (d : DiskState). file_of d) c.self.view_is) in
    let place = fits_place (length c.self.inside.images.file) c.args.at (length c.args.bytes.now) c.fits.result c.fits.ensures.value
    c.if-not-fits.false in
    let within : c.args.at ≤ length (file_of c.args.self.now) = omega (arith, reads, place) in
    (overwrites _ _ _ _ c.args.at c.args.bytes.now c.step.ensures.answer is (λ passes. within)).written

pub returns-clause-images : goal.returns-clause-images
unfolding file_of
returns-clause-images c =
    let is = c.step.ensures.after ∙ ap (after_call (fails_step c.args.self.now c.is_chosen-ready.result) c.args.self.now)
    c.write_step.ensures in
    let reads = ap length (c.self.invariant.images.file ∙ ap (λ (d : DiskState). file_of d) c.self.view_is) in
    let place = fits_place (length c.self.inside.images.file) c.args.at (length c.args.bytes.now) c.fits.result c.fits.ensures.value
    c.if-not-fits.false in
    let within : c.args.at ≤ length (file_of c.args.self.now) = omega (arith, reads, place) in
    (overwrites _ _ _ _ c.args.at c.args.bytes.now c.step.ensures.answer is (λ passes. within)).images

pub returns-clause-time : goal.returns-clause-time
returns-clause-time c = (passes_call _ _ _ _ c.step.ensures.after).time

pub returns-then-not-fits-clause-images : goal.returns-then-not-fits-clause-images
returns-then-not-fits-clause-images c =
    (overwrites true Failed c.args.self.now c.fails.new.self c.args.at c.args.bytes.now refl c.fails.ensures.after
    (λ e. absurd (cc))).images

pub returns-then-not-fits-clause-time : goal.returns-then-not-fits-clause-time
returns-then-not-fits-clause-time c = (passes_call true c.args.self.now c.fails.new.self Synced c.fails.ensures.after).time

pub returns-then-not-fits-clause-beside : goal.returns-then-not-fits-clause-beside
returns-then-not-fits-clause-beside c = look_beside true c.args.self.now c.fails.new.self c.fails.ensures.after

pub returns-clause-beside : goal.returns-clause-beside
returns-clause-beside c =
    let ready = c.is_chosen-ready.ensures ∙ ap (λ (d : DiskState). is_chosen d.naming) c.self.view_is in
    call_beside _ c.args.self.now c.step.new.self _ c.step.ensures.after
    (λ passes. step_ready c.args.self.now c.is_chosen-ready.result ready passes)

pub returns-clause-unchosen : goal.returns-clause-unchosen
returns-clause-unchosen c = λ none.
    let ready = c.is_chosen-ready.ensures ∙ ap (λ (d : DiskState). is_chosen d.naming) c.self.view_is in
    unchosen_steps c.args.self.now c.is_chosen-ready.result c.step.result c.step.ensures.answer ready none
