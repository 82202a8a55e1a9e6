use Rattle.std.proofs.Common.{◌≡◌, ◌∙◌, ◌<◌, ℕ, [], List, ap, length-set, refl, arith}
use Rattle.lm_ots.specs.declared.walks.Walk.{Walk}
use Rattle.lm_ots.specs.Walks.{end_of, walk_at}
use Rattle.lm_ots.proofs.Tables.{more_set, rest_set}
use Rattle.lm_ots.proofs.walks.finish.Goals as goal

pub loop-i-preserved : goal.loop-i-preserved
loop-i-preserved c =
    let invariant = c.loop-i.invariant in
    let idle : Walk = record { place = 0; end = 0; value = [] } in
    let walk : Walk = walk_at c.loop-i.walks c.loop-i.i in
    let next : Walk = record walk { value = c.chain-value.result } in
    rw c.from-at.ensures (record {
      size = length-set _ _ _ ∙ invariant.size;
      done = more_set (λ k (w : Walk). w.value ≡ end_of c.args.identifier.now c.args.q k (walk_at c.args.walks.now k))
          c.loop-i.walks idle c.loop-i.i next (omega (arith, invariant.size))
          (rw c.from-at.ensures at c.chain-value.ensures ∙ ap (λ (w : Walk). end_of c.args.identifier.now c.args.q c.loop-i.i w) (invariant.others c.loop-i.i (omega arith)))
          invariant.done;
      others = rest_set c.args.walks.now c.loop-i.walks idle c.loop-i.i next invariant.others;
    })
