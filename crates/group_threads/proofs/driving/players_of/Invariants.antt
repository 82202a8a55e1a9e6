use Rattle.std.proofs.Common.{◌≡◌, ◌+◌, ℕ, drop, take, length}
use Rattle.std.specs.Vec.Iter.{into_iter_items, into_iter_len}
use Rattle.group_threads.specs.Given.{seats_of}
use Rattle.group_threads.specs.Playing.{ArePlayed}
use Rattle.group_threads.proofs.driving.players_of.Given as goal

abbrev pub invariant-loop-place : goal.invariant-loop-place
invariant-loop-place l = record {
  runs : into_iter_items l.runs ≡ drop l.place l.fn.leaves.items;
  runs_left : into_iter_len l.runs + l.place ≡ length l.fn.leaves.items;
  spares : into_iter_items l.spares ≡ drop l.place l.fn.spare.items;
  spares_left : into_iter_len l.spares + l.place ≡ length l.fn.spare.items;
  players : ArePlayed l.players.items (take l.place (seats_of l.configs.items l.fn.leaves.items l.fn.spare.items l.faults.items)) (λ _. 0);
}
