use Rattle.std.proofs.Common.{◌≡◌, ◌-◌, All, length, map}
use Rattle.std.specs.List.{range_with_len}
use Rattle.shuffle_blame.specs.Asked.{past_of}
use Rattle.round_spec.specs.Slots.{pad_stage}
use Rattle.honest_say.proofs.Members.{pads_by}
use Rattle.honest_say.proofs.opening.pads_said.Given as goal

-- the pads of the members so far
abbrev pub invariant-loop-sender : goal.invariant-loop-sender
invariant-loop-sender l =
    (l.rows.items ≡ map (pads_by l.fn.log.shape (past_of l.fn.log l.fn.stage) (pad_stage l.fn.log.shape)) (range_with_len 1 (l.sender - 1)))
    × All (λ row. length row ≡ l.fn.log.shape.members) l.rows.items
