use Rattle.std.proofs.Common.{◌≡◌, ◌++◌, take}
use Rattle.std.specs.List.{flat_map}
use Rattle.group_report.specs.Report.{member_line}
use Rattle.group_report.proofs.report.put_all_members.Given as goal

-- the lines of the earlier members
abbrev pub invariant-loop-member : goal.invariant-loop-member
invariant-loop-member l = l.text.items ≡ l.fn.text.items ++ flat_map member_line (take l.member-index l.members.items)
