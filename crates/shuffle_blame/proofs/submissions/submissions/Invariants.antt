use Rattle.std.proofs.Common.{◌≡◌, ◌<◌, ◌-◌, ◌^◌, [], All, length, map}
use Rattle.std.specs.List.{range_with_len}
use Rattle.shuffle_blame.specs.Rules.{inquiry_at}
use Rattle.shuffle_blame.specs.Replay.{submission}
use Rattle.shuffle_blame.proofs.submissions.submissions.Given as goal

-- the submissions of the earlier members
abbrev pub invariant-loop-sender : goal.invariant-loop-sender
invariant-loop-sender l =
    (l.list.items ≡ map (submission (inquiry_at l.fn.log l.fn.ended [])) (range_with_len 1 (l.sender - 1)))
    × All (λ entry. length entry < 2 ^ 32) l.list.items
