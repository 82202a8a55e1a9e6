use Rattle.std.proofs.Common.{◌≡◌, ◌+◌, ◌++◌, drop}
use Rattle.group_report.specs.Report.{slot_lines}
use Rattle.group_report.proofs.report.put_slots.Given as goal

-- what is still to come makes it whole
abbrev pub invariant-loop-place : goal.invariant-loop-place
invariant-loop-place l =
    l.text.items ++ slot_lines (l.place + 1) (drop l.place l.slots.items) ≡ l.fn.text.items ++ slot_lines 1 l.slots.items
