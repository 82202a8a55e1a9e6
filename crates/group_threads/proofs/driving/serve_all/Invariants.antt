use Rattle.std.proofs.Common.{◌≡◌, ℕ, List, [], length}
use Rattle.group_spec.specs.World.{Carriage, Entry, Seat, entries_behind, seat_behind}
use Rattle.group_threads.specs.Playing.{ArePlayed, HaveTurned, posts_of, written_entry}
use Rattle.group_threads.proofs.driving.serve_all.Given as goal

abbrev pub invariant-loop-place : goal.invariant-loop-place
invariant-loop-place l = record {
  same : length l.players.items ≡ length l.fn.players.items;
  turned : (carriage : Carriage) (onway : Entry) (seats : List Seat) → carriage.repeat ≡ l.repeat → l.entry ≡ written_entry onway →
      ArePlayed l.fn.players.items seats posts_of →
      HaveTurned (seat_behind carriage onway) posts_of (entries_behind carriage onway) seats l.players.items [] l.posted.items l.place;
}
