use Rattle.std.proofs.Common.{◌≡◌, ℕ, ◌∷◌, [], slice_index, slice_index_or, arith}
use Rattle.lm_ots.specs.Walks.{next_step_of}
use Rattle.lm_ots.proofs.Tables.{each_of_four}
use Rattle.lm_ots.proofs.walks.next_steps.Goals as goal

pub returns : goal.returns
returns c =
    each_of_four (λ k. slice_index_or (c.next_step.result ∷ c.next_step-2.result ∷ c.next_step-3.result ∷ c.next_step-4.result ∷ []) k []
    ≡ next_step_of c.args.identifier.now c.args.q c.args.walks.now (slice_index c.args.lanes.now k))
    c.next_step.ensures c.next_step-2.ensures c.next_step-3.ensures c.next_step-4.ensures
