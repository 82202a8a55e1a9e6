use Rattle.std.specs.Fn.{iterate}
use Rattle.group_spec.specs.World.{first_world, world_behind_step}
use Rattle.group_threads.specs.Given.{seats_of}
use Rattle.group_threads.specs.Playing.{IsWorld}
use Rattle.group_threads.proofs.driving.drive.Given as goal

abbrev pub invariant-loop-place : goal.invariant-loop-place
invariant-loop-place l = IsWorld l.players.items l.queue.items l.place
    (iterate (world_behind_step (record { drops = l.drops.items; repeat = l.repeat })) l.place
    (first_world (seats_of l.configs.items l.fn.leaves.items l.fn.spare.items l.faults.items)))
