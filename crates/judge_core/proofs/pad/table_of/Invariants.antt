use Rattle.std.proofs.Common.{◌≡◌, ◌-◌, All, length, map}
use Rattle.std.specs.List.{range_with_len}
use Rattle.judge_core.specs.Case.{case_of, said_of, shape_in}
use Rattle.judge_core.specs.Pad.{pads_row, row_of}
use Rattle.judge_core.proofs.pad.table_of.Given as goal

-- the rows of the earlier members
abbrev pub invariant-loop-member : goal.invariant-loop-member
invariant-loop-member l =
    (l.rows.items ≡ map (row_of (case_of l.case) (pads_row (case_of l.case) (said_of l.pads))) (range_with_len 1 (l.member - 1)))
    × All (λ row. length row ≡ (shape_in (case_of l.case)).members) l.rows.items
