use Rattle.std.proofs.Common.{◌≡◌, ◌<◌, ◌≤◌, ◌-◌, ◌^◌, ℕ, Some, All, length, true}
use Rattle.shuffle_blame.specs.Rules.{inquiry_at}
use Rattle.shuffle_blame.specs.Replay.{is_turn, list_after}
use Rattle.shuffle_blame.proofs.turn.turn_fault.Given as goal

-- the earlier turns are right, and the last of them said this list
abbrev pub invariant-loop-turn : goal.invariant-loop-turn
invariant-loop-turn l =
    (list_after (inquiry_at l.fn.log l.fn.ended l.fn.parts) (l.turn - 1) ≡ Some l.input.items)
    × All (λ entry. length entry < 2 ^ 32) l.input.items
    × ((earlier : ℕ) → 1 ≤ earlier → earlier < l.turn → is_turn (inquiry_at l.fn.log l.fn.ended l.fn.parts) earlier ≡ true)
