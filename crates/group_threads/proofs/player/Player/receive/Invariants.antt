use Rattle.std.proofs.Common.{ℕ, ◌++◌}
use Rattle.std.specs.Prelude.{replicate}
use Rattle.group_spec.specs.World.{Seat}
use Rattle.group_threads.specs.Playing.{Plays}
use Rattle.group_threads.proofs.player.Player.receive.Given as goal

abbrev pub invariant-loop : goal.invariant-loop
invariant-loop l = (seat : Seat) (count : ℕ) → Plays l.fn.self seat count →
    Plays l.self (record seat { delivered = seat.delivered ++ replicate l.counter l.bytes }) count
