use Rattle.std.proofs.Common.{◌≡◌, ◌+◌, ℕ, None, ap, sym, arith, inl, inr, subst}
use Rattle.std.proofs.lemmas.Bool.{cases_lt}
use Rattle.wire_core.proofs.AnswerLemmas.{first_below-none, first_below-some}
use Rattle.phase_message.specs.declared.stage.Slot.{Slot}
use Rattle.phase_message.specs.Shape.{Shape}
use Rattle.go_nogo.specs.Differences.{differing}
use Rattle.go_nogo.proofs.DifferentLogs.{differing-some, differing-none}
use Rattle.go_nogo.proofs.differences.compare_stage.Goals as goal

pub returns-then-are_different : goal.returns-then-are_different
returns-then-are_different c =
    let members = ap (λ (shape : Shape). shape.members) c.shape-shape.ensures.shape in
    let slot : Slot = record { stage = c.args.stage; sender = c.loop-place.place + 1 } in
    sym (first_below-some (λ place. differing c.args.a.now c.args.b.now (record { stage = c.args.stage; sender = place + 1 }))
    c.args.a.now.shape.members c.loop-place.place slot (omega (arith, members)) c.loop-place.invariant
    (differing-some c.args.a.now c.args.b.now slot c.kept-post.result c.kept-other.result c.are_different.result c.kept-post.ensures.post
    c.kept-other.ensures.post c.are_different.ensures c.if-are_different.true))

pub returns : goal.returns
returns c =
    let members = ap (λ (shape : Shape). shape.members) c.shape-shape.ensures.shape in
    sym (first_below-none (λ place. differing c.args.a.now c.args.b.now (record { stage = c.args.stage; sender = place + 1 }))
    c.args.a.now.shape.members (λ k lt. c.loop-place.invariant k (omega (arith, members))))

pub loop-place-preserved : goal.loop-place-preserved
loop-place-preserved c = λ earlier lt.
    elim (cases_lt earlier c.loop-place.place) [
      | inl before ↦ c.loop-place.invariant earlier before
      | inr here ↦
          let same : c.loop-place.place ≡ earlier = omega arith in
          let slot : Slot = record { stage = c.args.stage; sender = c.loop-place.place + 1 } in
          subst (λ (k : ℕ). differing c.args.a.now c.args.b.now (record { stage = c.args.stage; sender = k + 1 }) ≡ None) same
          (differing-none c.args.a.now c.args.b.now slot c.kept-post.result c.kept-other.result c.are_different.result
          c.kept-post.ensures.post c.kept-other.ensures.post c.are_different.ensures c.if-are_different.false)
    ]
