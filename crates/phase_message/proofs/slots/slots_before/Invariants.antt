use Rattle.std.proofs.Common.{◌≡◌, ◌≤◌, ◌*◌}
use Rattle.phase_message.specs.Stages.{shape_of}
use Rattle.phase_message.specs.Slots.{slots_before}
use Rattle.phase_message.proofs.slots.slots_before.Given as goal

abbrev pub invariant-loop-earlier : goal.invariant-loop-earlier
invariant-loop-earlier l = (l.slots ≡ slots_before (shape_of l.shape) l.earlier) × (l.slots ≤ 8 * l.earlier)
