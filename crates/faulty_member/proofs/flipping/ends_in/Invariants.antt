use Rattle.std.proofs.Common.{◌≡◌, ◌-◌, map, ℕ}
use Rattle.std.specs.List.{range_with_len}
use Rattle.shuffle_blame.specs.Rules.{body_kept}
use Rattle.round_spec.specs.Slots.{final_stage}
use Rattle.faulty_member.proofs.flipping.ends_in.Given as goal

-- what the earlier members said
abbrev pub invariant-loop-sender : goal.invariant-loop-sender
invariant-loop-sender l =
    l.ends.items ≡ map (λ (member : ℕ). body_kept l.fn.log (record { stage = final_stage l.fn.log.shape 1; sender = member }))
    (range_with_len 1 (l.sender - 1))
