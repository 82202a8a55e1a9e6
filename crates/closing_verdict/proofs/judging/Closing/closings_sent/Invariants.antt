use Rattle.std.proofs.Common.{◌≡◌, ◌<◌, ◌-◌, ◌^◌, All, length, map}
use Rattle.std.specs.List.{range_with_len}
use Rattle.round_spec.specs.Verdict.{sent_in}
use Rattle.closing_verdict.specs.Judgement.{completed_of, stage_closed}
use Rattle.closing_verdict.proofs.judging.Closing.closings_sent.Given as goal

-- the posts of the earlier members
abbrev pub invariant-loop-sender : goal.invariant-loop-sender
invariant-loop-sender l =
    (l.posts.items ≡ map (sent_in (stage_closed (completed_of l.fn.self)) l.fn.self.stage) (range_with_len 1 (l.sender - 1)))
    × All (λ post. length post < 2 ^ 32) l.posts.items
