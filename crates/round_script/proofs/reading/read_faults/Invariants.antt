use Rattle.std.proofs.Common.{◌≡◌, ◌+◌, ◌-◌}
use Rattle.round_script.specs.Forms.{fault_line_of}
use Rattle.round_script.specs.Lines.{optionals, preceded}
use Rattle.round_script.proofs.reading.read_faults.Given as goal

-- the faulty members so far and those that are to come
abbrev pub invariant-loop-i : goal.invariant-loop-i
invariant-loop-i l =
    preceded l.faults.items (optionals fault_line_of (l.i + 1) (l.fn.shape.members - l.i) l.lines)
    ≡ optionals fault_line_of 1 l.fn.shape.members l.fn.lines
