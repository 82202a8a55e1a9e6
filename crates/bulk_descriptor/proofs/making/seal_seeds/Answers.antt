use Rattle.std.proofs.Common.{◌<◌, [], length, sym, ◌∙◌, arith}
use Rattle.std.proofs.lemmas.List.{get_or_read}
use Rattle.bulk_descriptor.proofs.CodeLemmas.{sealed_seeds-none, sealed_seeds-more}
use Rattle.bulk_descriptor.proofs.making.seal_seeds.Goals as goal

pub loop-k-init : goal.loop-k-init
loop-k-init c = c.in_ok-capsules.ensures.items ∙ sym (sealed_seeds-none c.args.keys.now.items c.args.seeds.now.items)

pub loop-k-preserved : goal.loop-k-preserved
loop-k-preserved c =
    let keys = c.args.keys.now.items in
    let seeds = c.args.seeds.now.items in
    let k = c.loop-k.k in
    let below : k < length keys = omega (arith, c.args.keys.now.ok.0, c.len-k-end.ensures, c.loop-k-test.true) in
    let below' : k < length seeds = omega (arith, c.args.seeds.now.ok.0, c.len-k-end.ensures, c.loop-k-test.true, c.requires) in
    c.in_ok-push.ensures.items
    ∙ sealed_seeds-more keys seeds c.index.result.now c.index-in-loop-k.result.now c.seal_seed.result c.loop-k.capsules.items k below below'
    (get_or_read keys k c.index.result.now below c.index.ensures [])
    (get_or_read seeds k c.index-in-loop-k.result.now below' c.index-in-loop-k.ensures [])
    c.seal_seed.ensures c.loop-k.invariant
