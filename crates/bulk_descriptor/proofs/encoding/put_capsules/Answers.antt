use Rattle.std.proofs.Common.{[]}
use Rattle.std.proofs.lemmas.List.{get_or_read}
use Rattle.bulk_descriptor.proofs.CodeLemmas.{concat-more}
use Rattle.bulk_descriptor.proofs.encoding.put_capsules.Goals as goal

pub loop-capsule-preserved : goal.loop-capsule-preserved
loop-capsule-preserved c =
    let items = c.deref-capsule-items.result.now in
    rw (c.in_ok-put_bytes.ensures.ok, c.loop-capsule.invariant, c.bytes.ensures.value)
    (concat-more items c.args.out.now.items c.capsule-item.result c.loop-capsule.capsule-index c.loop-capsule-test.true
    (get_or_read items c.loop-capsule.capsule-index c.capsule-item.result c.loop-capsule-test.true c.capsule-item.is []))
