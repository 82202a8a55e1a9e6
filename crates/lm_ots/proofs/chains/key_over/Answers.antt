use Rattle.std.proofs.Common.{ℕ, [], ◌++◌, ap}
use Rattle.lm_ots.specs.OneTime.{d_pblc, u16str, u32str}
use Rattle.lm_ots.specs.Walks.{walk_at}
use Rattle.lm_ots.proofs.Walking.{values-more, values-none}
use Rattle.lm_ots.proofs.chains.key_over.Goals as goal

pub loop-i-init : goal.loop-i-init
loop-i-init c =
    rw (
      values-none c.args.walks.now (c.args.identifier.now ++ u32str c.args.q ++ u16str d_pblc),
      ←
          c.u32str.ensures,
      ← c.u16str.ensures,
    )
    (c.update-3.ensures _ (c.update-2.ensures _ (c.update.ensures [] c.new-hasher.ensures)))

pub loop-i-preserved : goal.loop-i-preserved
loop-i-preserved c =
    let walks = c.args.walks.now in
    rw (← values-more walks c.loop-i.i (c.args.identifier.now ++ u32str c.args.q ++ u16str d_pblc) (walk_at walks c.from.result).value
    (ap (λ (j : ℕ). (walk_at walks j).value) c.from.ensures))
    (c.update-in-loop-i.ensures _ c.loop-i.invariant)
