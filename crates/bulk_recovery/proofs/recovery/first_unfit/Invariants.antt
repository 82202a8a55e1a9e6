use Rattle.std.proofs.Common.{◌≡◌, None}
use Rattle.std.specs.List.{find, range_with_len}
use Rattle.bulk_descriptor.specs.Fields.{description_of}
use Rattle.bulk_descriptor.specs.SlotState.{pads_for}
use Rattle.bulk_recovery.proofs.RecoveryLemmas.{is_unfit}
use Rattle.bulk_recovery.proofs.recovery.first_unfit.Given as goal

-- the pads so far fit
abbrev pub invariant-loop-place : goal.invariant-loop-place
invariant-loop-place l = find (is_unfit (description_of l.descriptor) (pads_for l.pads.members l.slot)) (range_with_len 1 l.place) ≡ None
