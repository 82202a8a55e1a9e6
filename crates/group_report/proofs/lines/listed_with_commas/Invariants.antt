use Rattle.std.proofs.Common.{◌≡◌, ◌-◌}
use Rattle.group_report.specs.Report.{listed_to}
use Rattle.group_report.proofs.lines.listed_with_commas.Given as goal

-- what is listed of the earlier members
abbrev pub invariant-loop-member : goal.invariant-loop-member
invariant-loop-member l = l.text.items ≡ listed_to l.fn.bits (l.member - 1)
