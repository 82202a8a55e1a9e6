use Rattle.std.proofs.Common.{◌∙◌, Some, List, ℕ, ap}
use Rattle.crash_disk.specs.declared.steps_taken.Step.TheVariants.{Synced}
use Rattle.crash_disk.specs.Memory.{DiskState}
use Rattle.crash_disk.specs.Naming.{is_chosen}
use Rattle.crash_disk.proofs.Disks.{passes_call, syncs}
use Rattle.crash_disk.proofs.Named.{call_beside, step_ready, unchosen_steps}
use Rattle.crash_disk.proofs.memory_disk.MemoryDiskDisk.sync.Goals as goal

pub returns-clause-durable : goal.returns-clause-durable
returns-clause-durable c = (syncs _ _ _ _ c.step.ensures.answer c.step.ensures.after).durable

pub returns-clause-kept : goal.returns-clause-kept
returns-clause-kept c = ap (λ (l : List ℕ). Some l) (syncs _ _ _ _ c.step.ensures.answer c.step.ensures.after).kept

pub returns-clause-images : goal.returns-clause-images
returns-clause-images c = (syncs _ _ _ _ c.step.ensures.answer c.step.ensures.after).images

pub returns-clause-time : goal.returns-clause-time
returns-clause-time c = (passes_call _ _ _ _ c.step.ensures.after).time

pub returns-clause-beside : goal.returns-clause-beside
returns-clause-beside c =
    let ready = c.is_chosen-ready.ensures ∙ ap (λ (d : DiskState). is_chosen d.naming) c.self.view_is in
    call_beside _ c.args.self.now c.step.new.self Synced c.step.ensures.after
    (λ passes. step_ready c.args.self.now c.is_chosen-ready.result ready passes)

pub returns-clause-unchosen : goal.returns-clause-unchosen
returns-clause-unchosen c = λ none.
    let ready = c.is_chosen-ready.ensures ∙ ap (λ (d : DiskState). is_chosen d.naming) c.self.view_is in
    unchosen_steps c.args.self.now c.is_chosen-ready.result c.step.result c.step.ensures.answer ready none
