use Rattle.std.proofs.Common.{◌≡◌, ℕ, None, ap, sym, ◌∙◌, arith, inl, inr, subst}
use Rattle.std.proofs.lemmas.Bool.{cases_lt}
use Rattle.wire_core.proofs.AnswerLemmas.{first_below-none, first_below-some}
use Rattle.phase_message.specs.Slots.{stage_count}
use Rattle.stage_log.specs.Table.{Log, incomplete_stage}
use Rattle.stage_log.proofs.Missing.{complete-none, incomplete-some}
use Rattle.stage_log.proofs.log.StageLog.first_incomplete.Goals as goal

pub returns-then-not-complete : goal.returns-then-not-complete
returns-then-not-complete c =
    let count = ap (λ (log : Log). stage_count log.shape) c.self.view_is in
    sym (first_below-some (incomplete_stage c.args.self.now) (stage_count c.args.self.now.shape) c.loop-stage.stage c.loop-stage.stage
    (omega (arith, count)) c.loop-stage.invariant
    (incomplete-some c.args.self.now c.loop-stage.stage (sym c.complete.ensures ∙ c.if-not-complete.true)))

pub returns : goal.returns
returns c =
    let count = ap (λ (log : Log). stage_count log.shape) c.self.view_is in
    sym (first_below-none (incomplete_stage c.args.self.now) (stage_count c.args.self.now.shape)
    (λ k lt. c.loop-stage.invariant k (omega (arith, count))))

pub loop-stage-preserved : goal.loop-stage-preserved
loop-stage-preserved c = λ earlier lt.
    elim (cases_lt earlier c.loop-stage.stage) [
      | inl before ↦ c.loop-stage.invariant earlier before
      | inr here ↦
          let same : c.loop-stage.stage ≡ earlier = omega arith in
          subst (λ (t : ℕ). incomplete_stage c.args.self.now t ≡ None) same
          (complete-none c.args.self.now c.loop-stage.stage (sym c.complete.ensures ∙ c.if-not-complete.false))
    ]
