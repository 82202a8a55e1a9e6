use Rattle.std.proofs.Common.{◌≡◌, ◌<◌, ◌≤◌, ℕ, None}
use Rattle.shuffle_blame.specs.Rules.{inquiry_at}
use Rattle.shuffle_blame.specs.Replay.{layer_fault}
use Rattle.shuffle_blame.proofs.submissions.submission_fault.Given as goal

-- no layer of an earlier member's submission is at fault
abbrev pub invariant-loop-member : goal.invariant-loop-member
invariant-loop-member l =
    (earlier : ℕ) → 1 ≤ earlier → earlier < l.member → layer_fault (inquiry_at l.fn.log l.fn.ended l.fn.parts) l.fn.ended.shuffle earlier ≡
    None
