use Rattle.std.proofs.Common.{◌+◌, sym, arith}
use Rattle.std.proofs.lemmas.List.FromFn.{map-range_with_len_more}
use Rattle.wire_core.specs.Hash.{layer_seed}
use Rattle.shuffle_core.proofs.seeds.layer_seeds.Goals as goal

pub loop-k-preserved : goal.loop-k-preserved
loop-k-preserved c =
    let seed = layer_seed c.args.opening.now c.args.round c.args.shuffle c.args.side c.args.member in
    rw (c.in_ok-push.ensures.items, c.loop-k.invariant, c.layer_seed.ensures)
    (sym (map-range_with_len_more seed 1 c.loop-k.k (c.loop-k.k + 1) (omega arith)))
