use Rattle.std.proofs.Common.{◌≡◌, ◌<◌, ◌^◌, ◌-◌}
use Rattle.std.specs.List.{range_with_len, sum_by}
use Rattle.stage_log.specs.Table.{missing_bit}
use Rattle.stage_log.proofs.log.StageLog.missing.Given as goal

abbrev pub invariant-loop-sender : goal.invariant-loop-sender
invariant-loop-sender l = (l.bits ≡ sum_by (missing_bit l.self l.stage) (range_with_len 1 (l.sender - 1))) × (l.bits < 2 ^ (l.sender - 1))
