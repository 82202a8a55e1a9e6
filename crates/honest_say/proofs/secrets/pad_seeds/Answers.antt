use Rattle.std.proofs.Common.{◌+◌, sym, arith}
use Rattle.std.proofs.lemmas.List.FromFn.{map-range_with_len_more}
use Rattle.wire_core.specs.Hash.{derived}
use Rattle.honest_say.proofs.secrets.pad_seeds.Goals as goal

pub loop-place-preserved : goal.loop-place-preserved
loop-place-preserved c =
    let seed = derived c.args.fresh.now c.args.round 12 in
    rw (c.in_ok-push.ensures.items, c.loop-place.invariant, c.derived.ensures)
    (sym (map-range_with_len_more seed 1 c.loop-place.place (c.loop-place.place + 1) (omega arith)))
