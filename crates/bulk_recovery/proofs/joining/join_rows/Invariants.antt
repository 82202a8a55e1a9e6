use Rattle.std.proofs.Common.{◌≡◌, take}
use Rattle.bulk_descriptor.specs.Descriptor.{hidden_under}
use Rattle.bulk_descriptor.specs.SlotState.{pads_for}
use Rattle.bulk_recovery.proofs.joining.join_rows.Given as goal

-- the rows so far are joined
abbrev pub invariant-loop-row : goal.invariant-loop-row
invariant-loop-row l = l.bytes ≡ hidden_under l.fn.bytes (pads_for (take l.row-index l.rows) l.slot)
