use Rattle.std.proofs.Common.{arith}
use Rattle.group_report.proofs.Listings.{size-all, size-more}
use Rattle.group_report.proofs.counts.message_bytes.Goals as goal

pub loop-place-preserved : goal.loop-place-preserved
loop-place-preserved c =
    size-more c.args.slots.now.items c.loop-place.place c.index.result.now c.loop-place.size c.message_size.result c.in_ok-sum.sum
    (omega (arith, c.loop-place-test.true)) c.index.ensures c.message_size.ensures c.in_ok-sum.ensures c.loop-place.invariant

pub returns : goal.returns
returns c = size-all c.args.slots.now.items c.loop-place.place c.loop-place.size (omega (arith, c.loop-place-test.false))
    c.loop-place.invariant
