use Rattle.std.proofs.Common.{◌<◌, length, refl, ap, arith, List, ℕ}
use Rattle.bulk_descriptor.specs.Fields.{description_of}
use Rattle.bulk_descriptor.specs.SlotState.{pads_for}
use Rattle.bulk_recovery.proofs.RecoveryLemmas.{unfit_found, fit_so_far, all_fit, length-pads_for}
use Rattle.bulk_recovery.proofs.recovery.first_unfit.Goals as goal

pub loop-place-init : goal.loop-place-init
loop-place-init c = refl

pub unfit_at-requires-clause-place : goal.unfit_at-requires-clause-place
unfit_at-requires-clause-place c = omega (arith, c.loop-place-test.true, ap (λ (l : List (List (List ℕ))). length l) c.items.ensures)

pub returns-in-Some : goal.returns-in-Some
returns-in-Some c =
    let table = c.args.pads.now.members in
    let below : c.loop-place.place < length table = omega (
      arith,
      c.loop-place-test.true,
      ap (λ (l : List (List (List ℕ))). length l)
          c.items.ensures,
    ) in
    unfit_found (description_of c.args.descriptor.now) (pads_for table c.args.slot) c.loop-place.place c.in-Some.member c.unfit_at.result
    (omega (arith, below, length-pads_for table c.args.slot)) c.loop-place.invariant c.unfit_at.ensures c.in-Some.is

pub loop-place-preserved : goal.loop-place-preserved
loop-place-preserved c =
    fit_so_far (description_of c.args.descriptor.now) (pads_for c.args.pads.now.members c.args.slot) c.loop-place.place c.unfit_at.result
    c.loop-place.invariant c.unfit_at.ensures c.in_default.is

pub returns : goal.returns
returns c =
    let table = c.args.pads.now.members in
    all_fit (description_of c.args.descriptor.now) (pads_for table c.args.slot) c.loop-place.place
    (omega (
      arith,
      c.loop-place-test.false,
      c.loop-place.auto.place-end,
      ap (λ (l : List (List (List ℕ))). length l) c.items.ensures,
      length-pads_for table c.args.slot,
    )) c.loop-place.invariant
