use Rattle.std.proofs.Common.{◌≡◌, ℕ, [], List, ap, ◌∙◌, slice_index_or, arith, refl}
use Rattle.sha2.specs.Sha256.{sha256}
use Rattle.sha_lanes.proofs.Lanes.{lane-digest}
use Rattle.lm_ots.specs.Walks.{next_string, with_digest}
use Rattle.lm_ots.proofs.Walking.{iterate-more}
use Rattle.lm_ots.proofs.step_strings.step_four.Goals as goal

pub loop-step-preserved : goal.loop-step-preserved
loop-step-preserved c = record {
  size = c.set_steps.array_long;
  further = λ k below.
      let old : List ℕ = slice_index_or c.loop-step.strings k [] in
      c.set_steps.ensures k below
      ∙ ap (λ (d : List ℕ). with_digest old d)
      (lane-digest c.loop-step.strings c.four_digests-digests.result c.loop-step.invariant.size c.four_digests-digests.ensures k below)
      ∙ ap next_string (c.loop-step.invariant.further k below)
      ∙ iterate-more c.loop-step.step (slice_index_or c.args.strings.now k []);
}
