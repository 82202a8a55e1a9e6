use Rattle.std.proofs.Common.{◌≡◌, ◌<◌, ◌-◌, ◌^◌, All, length, map}
use Rattle.std.specs.List.{range_with_len}
use Rattle.shuffle_blame.specs.Asked.{past_of}
use Rattle.round_spec.specs.Slots.{submit_stage}
use Rattle.honest_say.proofs.Members.{submission_by}
use Rattle.honest_say.proofs.said.submissions_said.Given as goal

-- the submissions of the earlier members
abbrev pub invariant-loop-sender : goal.invariant-loop-sender
invariant-loop-sender l =
    (l.list.items ≡ map (submission_by l.fn.log.shape (past_of l.fn.log l.fn.stage) (submit_stage l.fn.log.shape l.fn.shuffle))
    (range_with_len 1 (l.sender - 1)))
    × All (λ entry. length entry < 2 ^ 32) l.list.items
