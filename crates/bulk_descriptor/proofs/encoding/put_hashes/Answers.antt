use Rattle.std.proofs.Common.{[], get_or, refl}
use Rattle.bulk_descriptor.proofs.CodeLemmas.{concat-more}
use Rattle.bulk_descriptor.proofs.encoding.put_hashes.Goals as goal

pub loop-hash-preserved : goal.loop-hash-preserved
loop-hash-preserved c =
    let items = c.deref-hash-items.result.now in
    rw (c.in_ok-put_bytes.ensures.ok, c.loop-hash.invariant)
    (concat-more items c.args.out.now.items (get_or items c.loop-hash.hash-index []) c.loop-hash.hash-index c.loop-hash-test.true refl)
