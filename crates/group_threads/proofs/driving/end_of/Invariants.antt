use Rattle.std.proofs.Common.{◌≡◌, List, map}
use Rattle.group_spec.specs.World.{Seat}
use Rattle.group_threads.specs.Playing.{ArePlayed, posts_of}
use Rattle.group_threads.proofs.Groups.{shown-end}
use Rattle.group_threads.proofs.driving.end_of.Given as goal

abbrev pub invariant-loop-player : goal.invariant-loop-player
invariant-loop-player l = (seats : List Seat) → ArePlayed l.yielded seats posts_of →
    (l.members.items ≡ map shown-end seats) × (l.deliveries.items ≡ map (λ (s : Seat). s.delivered) seats)
