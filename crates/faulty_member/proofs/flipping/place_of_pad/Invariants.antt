use Rattle.std.proofs.Common.{◌≡◌, ◌<◌, ℕ, None}
use Rattle.phase_message.specs.Stages.{shape_of}
use Rattle.faulty_member.proofs.Pads.{flipped-at}
use Rattle.faulty_member.proofs.flipping.place_of_pad.Given as goal

-- no earlier pad is flipped
abbrev pub invariant-loop-place : goal.invariant-loop-place
invariant-loop-place l = (earlier : ℕ) → earlier < l.place → flipped-at (shape_of l.fn.shape) l.fn.own l.fn.items.items l.fn.pads.items
    earlier ≡ None
