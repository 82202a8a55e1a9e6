use Rattle.std.proofs.Common.{◌≡◌, ◌≤◌, length, arith}
use Rattle.group_spec.specs.World.{Carriage}
use Rattle.group_threads.proofs.Worlds.{resting-step}
use Rattle.group_threads.proofs.driving.step.Goals as goal

pub returns-then-place-len : goal.returns-then-place-len
returns-then-place-len c = c.carry.ensures

pub returns : goal.returns
returns c = λ world is.
    let carriage : Carriage = record { drops = c.args.drops.now.items; repeat = c.args.repeat } in
    let past : length c.args.queue.now.items ≤ c.args.place = omega (arith, c.if-place-len.false, c.len.ensures, c.args.queue.now.ok.0) in
    resting-step carriage c.args.players.now.items c.args.queue.now.items c.args.place world is past
