use Rattle.std.proofs.Common.{◌≡◌, ◌+◌, ◌-◌, ◌*◌}
use Rattle.phase_message.specs.Stages.{shape_of}
use Rattle.round_script.specs.Forms.{slot_dropped}
use Rattle.round_script.specs.Lines.{optionals, preceded}
use Rattle.round_script.proofs.reading.read_drops.Given as goal

-- the slots so far and those that are to come
abbrev pub invariant-loop-rank : goal.invariant-loop-rank
invariant-loop-rank l =
    preceded l.drops.items (optionals (slot_dropped (shape_of l.shape)) l.rank (8 * (2 * l.shape.members + 10) - l.rank) l.lines)
    ≡ optionals (slot_dropped (shape_of l.shape)) 0 (8 * (2 * l.shape.members + 10)) l.fn.lines
