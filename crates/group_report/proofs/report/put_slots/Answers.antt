use Rattle.std.proofs.Common.{◌++◌, arith}
use Rattle.group_report.specs.Report.{slot_lines}
use Rattle.group_report.proofs.Listings.{lines-end, lines-next}
use Rattle.group_report.proofs.report.put_slots.Goals as goal

pub loop-place-preserved : goal.loop-place-preserved
loop-place-preserved c =
    let slots = c.args.slots.now.items in
    lines-next c.loop-place.text.items c.put_slot.new.text.items (c.args.text.now.items ++ slot_lines 1 slots) c.loop-place.place slots
    c.index.result.now
    (omega (arith, c.loop-place-test.true)) c.in_ok-put_slot.ensures c.index.ensures c.loop-place.invariant

pub returns : goal.returns
returns c =
    let slots = c.args.slots.now.items in
    lines-end c.loop-place.text.items (c.args.text.now.items ++ slot_lines 1 slots) c.loop-place.place slots
    (omega (arith, c.loop-place-test.false)) c.loop-place.invariant
