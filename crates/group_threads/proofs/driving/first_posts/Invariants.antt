use Rattle.std.proofs.Common.{◌≡◌, ℕ, List, [], length}
use Rattle.group_spec.specs.World.{Seat, entries_beyond}
use Rattle.group_threads.specs.Playing.{ArePlayed, HaveTurned}
use Rattle.group_threads.proofs.driving.first_posts.Given as goal

abbrev pub invariant-loop-place : goal.invariant-loop-place
invariant-loop-place l = record {
  same : length l.players.items ≡ length l.fn.players.items;
  turned : (seats : List Seat) → ArePlayed l.fn.players.items seats (λ _. 0) →
      HaveTurned (λ s. s) (λ _. 0) (entries_beyond 0) seats l.players.items [] l.posted.items l.place;
}
