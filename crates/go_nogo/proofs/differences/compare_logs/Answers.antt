use Rattle.std.proofs.Common.{◌≡◌, ℕ, None, Some, ap, sym, ◌∙◌, arith, inl, inr, subst}
use Rattle.std.proofs.lemmas.Bool.{cases_lt}
use Rattle.wire_core.proofs.AnswerLemmas.{first_below-none, first_below-some}
use Rattle.phase_message.specs.Shape.{Shape}
use Rattle.phase_message.specs.Slots.{stage_count}
use Rattle.go_nogo.specs.Differences.{difference_at}
use Rattle.go_nogo.proofs.LeastDifference.{difference-is}
use Rattle.go_nogo.proofs.differences.compare_logs.Goals as goal

pub returns-in-Some-clause-value : goal.returns-in-Some-clause-value
returns-in-Some-clause-value c =
    let members = ap (λ (shape : Shape). shape.members) c.shape-shape.ensures.shape in
    sym (first_below-some (difference_at c.args.a.now c.args.b.now) (stage_count c.args.a.now.shape) c.loop-stage.stage c.in-Some.slot
    (omega (arith, members)) c.loop-stage.invariant (sym c.compare_stage.ensures ∙ c.in-Some.is))

pub returns-clause-value : goal.returns-clause-value
returns-clause-value c =
    let members = ap (λ (shape : Shape). shape.members) c.shape-shape.ensures.shape in
    sym (first_below-none (difference_at c.args.a.now c.args.b.now) (stage_count c.args.a.now.shape)
    (λ k lt. c.loop-stage.invariant k (omega (arith, members))))

pub returns-in-Some-clause-first : goal.returns-in-Some-clause-first
returns-in-Some-clause-first c = difference-is c.args.a.now c.args.b.now (Some c.in-Some.slot) (returns-in-Some-clause-value c)

pub returns-clause-first : goal.returns-clause-first
returns-clause-first c = difference-is c.args.a.now c.args.b.now None (returns-clause-value c)

pub loop-stage-preserved : goal.loop-stage-preserved
loop-stage-preserved c = λ earlier lt.
    elim (cases_lt earlier c.loop-stage.stage) [
      | inl before ↦ c.loop-stage.invariant earlier before
      | inr here ↦
          let same : c.loop-stage.stage ≡ earlier = omega arith in
          subst (λ (t : ℕ). difference_at c.args.a.now c.args.b.now t ≡ None) same (sym c.compare_stage.ensures ∙ c.in_default.is)
    ]
