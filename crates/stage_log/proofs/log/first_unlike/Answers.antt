use Rattle.std.proofs.Common.{◌≡◌, ℕ, None, sym, ◌∙◌, arith, inl, inr, subst, length}
use Rattle.std.proofs.lemmas.Bool.{cases_lt}
use Rattle.wire_core.proofs.AnswerLemmas.{first_below-none, first_below-some}
use Rattle.stage_log.specs.Log.{unlike_at}
use Rattle.stage_log.proofs.Steps.{unlike_at-none, unlike_at-some}
use Rattle.stage_log.proofs.log.first_unlike.Goals as goal

pub returns-then-not-carries : goal.returns-then-not-carries
returns-then-not-carries c =
    sym (first_below-some (unlike_at c.args.view.now c.args.places.now) (length c.args.places.now) c.loop-place.place c.loop-place.place
    c.loop-place-test.true c.loop-place.invariant
    (unlike_at-some c.args.view.now c.args.places.now c.loop-place.place c.index-places-place.result c.loop-place-test.true
    c.index-places-place.is (sym c.carries.ensures ∙ c.if-not-carries.true)))

pub returns : goal.returns
returns c = sym (first_below-none (unlike_at c.args.view.now c.args.places.now) (length c.args.places.now)
    (λ k lt. c.loop-place.invariant k (omega arith)))

pub loop-place-preserved : goal.loop-place-preserved
loop-place-preserved c = λ earlier lt.
    elim (cases_lt earlier c.loop-place.place) [
      | inl before ↦ c.loop-place.invariant earlier before
      | inr here ↦
          let same : c.loop-place.place ≡ earlier = omega arith in
          subst (λ (k : ℕ). unlike_at c.args.view.now c.args.places.now k ≡ None) same
          (unlike_at-none c.args.view.now c.args.places.now c.loop-place.place c.index-places-place.result c.loop-place-test.true
          c.index-places-place.is (sym c.carries.ensures ∙ c.if-not-carries.false))
    ]
