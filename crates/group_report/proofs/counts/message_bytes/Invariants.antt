use Rattle.std.proofs.Common.{◌≡◌, take}
use Rattle.std.specs.List.{sum_by}
use Rattle.group_report.specs.Report.{message_size}
use Rattle.group_report.proofs.counts.message_bytes.Given as goal

-- the sum of the earlier ones
abbrev pub invariant-loop-place : goal.invariant-loop-place
invariant-loop-place l = l.size ≡ sum_by message_size (take l.place l.slots.items)
