use Rattle.std.proofs.Common.{◌≡◌, ◌++◌, ◌∷◌, [], List, length, false, ap, ◌∙◌, arith}
use Rattle.crash_disk.specs.declared.steps_taken.Step.{Step}
use Rattle.crash_disk.specs.Memory.{DiskState, fails_step}
use Rattle.crash_disk.proofs.Disks.{no_step_fails, stepped}
use Rattle.crash_disk.proofs.Named.{look_passes}
use Rattle.crash_disk.proofs.Picked.{fits_still, images_push}
use Rattle.crash_disk.proofs.memory_disk.MemoryDisk.step.Goals as goal

pub invariant_of-self-2 : goal.invariant_of-self-2
invariant_of-self-2 c = record {
  images =
      images_push c.self-3.inside.first c.self-3.inside.steps.items _ c.args.step c.self-3.inside.images _ c.self-3.invariant.images
      (fits_still c.args.self.now c.counts.new.self _ c.self-3.inside.images c.args.step c.self-3.invariant.images c.self-3.view_is
      c.counts.ensures.counted c.requires)
      c.step.ensures c.in-Ok.ensures.items;
  room = omega (arith, c.self-3.invariant.room, c.in-Ok.ensures.capacity);
}

pub returns-clause-after : goal.returns-clause-after
returns-clause-after c =
    let pushed = ap (λ (l : List Step). let d : DiskState = record {
      first = c.self-3.inside.first;
      steps = l;
      room = c.self-3.inside.room;
      plan = c.self-3.inside.plan;
      passing =
          c.self-3.inside.passing;
      naming = c.self-3.inside.naming;
    } in d) c.in-Ok.ensures.items in
    let view = ap (λ (d : DiskState). let e : DiskState = record
    { first = d.first; steps = d.steps ++ c.args.step ∷ []; room = d.room; plan = d.plan; passing = d.passing; naming = d.naming } in e)
    c.self-3.view_is in
    let size = ap (λ (d : DiskState). length d.steps) c.self.view_is in
    let room = ap (λ (d : DiskState). d.room) c.self.view_is in
    let looks = look_passes c.args.self.now c.args.ready c.counts.result c.counts.ensures.answer c.if-counts.false c.if-not-ready.false in
    let passes : fails_step c.args.self.now c.args.ready ≡ false =
    no_step_fails c.args.self.now c.args.ready looks (omega (arith, size, room, c.len.ensures, c.if-full.false)) in
    stepped (fails_step c.args.self.now c.args.ready) c.args.self.now c.counts.new.self _ c.args.step passes c.counts.ensures.counted
    (pushed ∙ view)
