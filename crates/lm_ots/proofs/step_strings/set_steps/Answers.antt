use Rattle.std.proofs.Common.{◌≡◌, ◌∙◌, ℕ, [], List, ap, slice_index_or, length-set, refl, arith}
use Rattle.lm_ots.specs.Walks.{with_digest}
use Rattle.lm_ots.proofs.Tables.{more_set, rest_set}
use Rattle.lm_ots.proofs.step_strings.set_steps.Goals as goal

pub loop-k-preserved : goal.loop-k-preserved
loop-k-preserved c =
    let invariant = c.loop-k.invariant in
    let digest : List ℕ = slice_index_or c.args.digests.now c.loop-k.k [] in
    record {
      size = length-set _ _ _ ∙ invariant.size;
      done = more_set (λ j s. s ≡ with_digest (slice_index_or c.args.strings.now j []) (slice_index_or c.args.digests.now j []))
          c.loop-k.strings [] c.loop-k.k c.set_step.new.block (omega (arith, invariant.size))
          (c.set_step.ensures ∙ ap (λ (s : List ℕ). with_digest s digest) (invariant.others c.loop-k.k (omega arith))) invariant.done;
      others = rest_set c.args.strings.now c.loop-k.strings [] c.loop-k.k c.set_step.new.block invariant.others;
    }
