use Rattle.std.proofs.Common.{◌≡◌, ◌<◌, ◌≤◌, ◌-◌, ◌^◌, ℕ, Some, length, true}
use Rattle.std.specs.Prelude.{unwrap_or}
use Rattle.shuffle_blame.specs.Rules.{inquiry_at}
use Rattle.shuffle_blame.specs.Replay.{has_layer, inside, submission}
use Rattle.shuffle_blame.proofs.submissions.wrong_layer.Given as goal

-- the earlier layers carry their seeds, and with them off this is left
abbrev pub invariant-loop-layer : goal.invariant-loop-layer
invariant-loop-layer l =
    (inside (inquiry_at l.fn.log l.fn.ended l.fn.parts) (submission (inquiry_at l.fn.log l.fn.ended l.fn.parts) l.fn.member) (l.layer - 1) ≡
    Some (unwrap_or l.inside l.bytes))
    × (length (unwrap_or l.inside l.bytes) < 2 ^ 32)
    × ((earlier : ℕ) → 1 ≤ earlier → earlier < l.layer → has_layer (inquiry_at l.fn.log l.fn.ended l.fn.parts) l.fn.ended.shuffle
    l.fn.member earlier ≡ true)
