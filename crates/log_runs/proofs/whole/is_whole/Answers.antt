use Rattle.std.proofs.Common.{◌≡◌, ℕ, true, sym, ◌∙◌, subst, arith, inl, inr}
use Rattle.std.proofs.lemmas.Bool.{cases_lt}
use Rattle.stage_log.specs.Table.{is_complete}
use Rattle.log_runs.proofs.whole.is_whole.Goals as goal

pub loop-earlier-preserved : goal.loop-earlier-preserved
loop-earlier-preserved c = λ earlier lt.
    elim (cases_lt earlier c.loop-earlier.earlier) [
      | inl before ↦ c.loop-earlier.invariant earlier before
      | inr here ↦
          let same : c.loop-earlier.earlier ≡ earlier = omega arith in
          subst (λ (t : ℕ). is_complete c.args.log.now t ≡ true) same (sym c.complete.ensures ∙ c.if-not-complete.false)
    ]
