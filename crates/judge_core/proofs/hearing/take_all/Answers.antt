use Rattle.std.proofs.Common.{◌≡◌, ◌^◌, ◌<◌, List, [], ◌∷◌, ◌++◌, length, Option, Some, None, Result, Ok, Bool, true, false, refl, sym, ap, subst, ◌∙◌}
use Rattle.std.specs.Prelude.{All, is_ok, not, unwrap_or, if◌then◌else◌}
use Rattle.std.proofs.lemmas.Bool.{cond-true}
use Rattle.std.proofs.lemmas.List.Elements.{All-push}
use Rattle.std.specs.Option.{option_or}
use Rattle.std.proofs.lemmas.Result.{err_from_is_err_and}
use Rattle.phase_message.specs.declared.header.Header.{Header}
use Rattle.judge_core.specs.declared.failed_check.FailedCheck.{FailedCheck}
use Rattle.judge_core.specs.declared.hearing.Said.{Said as GivenSaid}
use Rattle.judge_core.specs.Case.{Said, case_of}
use Rattle.judge_core.proofs.Hearings.{ok_is}
use Rattle.judge_core.proofs.Takings.{takes-all, takes-fails, takes-next}
use Rattle.judge_core.proofs.hearing.take_all.Goals as goal

or_first : (first : Option Header) (header : Header) → option_or first (Some header) ≡ Some (unwrap_or first header)
or_first None header = refl
or_first (Some h) header = refl

all_pushed : (b : Bool) (kept now : List GivenSaid) (said : GivenSaid) → now ≡ (if b then kept ++ said ∷ [] else kept)
    → All (λ (one : GivenSaid). length one.content.now < 2 ^ 32) kept → length said.content.now < 2 ^ 32
    → All (λ (one : GivenSaid). length one.content.now < 2 ^ 32) now
all_pushed true kept now said e all one = subst (λ (x : List GivenSaid). All (λ (one : GivenSaid). length one.content.now < 2 ^ 32) x)
    (sym e) (All-push (λ (one : GivenSaid). length one.content.now < 2 ^ 32) kept said all one)
all_pushed false kept now said e all one = subst (λ (x : List GivenSaid). All (λ (one : GivenSaid). length one.content.now < 2 ^ 32) x)
    (sym e) all

pub returns-in_err-said-clause-exact : goal.returns-in_err-said-clause-exact
returns-in_err-said-clause-exact c =
    let p = err_from_is_err_and c.from_residual.result c.from_residual.ensures.1 in
    rw (p.1, p.2) (takes-fails (case_of c.args.case) c.args.posts c.loop-bytes.bytes-iterator c.in-Some.bytes.now c.next.new.self
    c.loop-bytes.first c.loop-bytes.number c.loop-bytes.lost c.loop-bytes.all.items c.in_err-said.field-0.0 c.loop-bytes.invariant
    c.in-Some.ensures.steps c.in_err-said.ensures.exact)

pub loop-bytes-preserved-then-lost : goal.loop-bytes-preserved-then-lost
loop-bytes-preserved-then-lost c =
    takes-next (case_of c.args.case) c.args.posts c.loop-bytes.bytes-iterator c.in-Some.bytes.now c.next.new.self c.loop-bytes.first
    c.or-first.result c.loop-bytes.number c.loop-bytes.lost c.loop-bytes.lost c.loop-bytes.all.items c.loop-bytes.all.items
    c.in_ok-said.said
    c.loop-bytes.invariant c.in-Some.ensures.steps c.in_ok-said.ensures.exact c.in_ok-said.ensures.short
    (c.or-first.ensures ∙ or_first c.loop-bytes.first c.in_ok-said.said.header) (λ e. absurd (let both = sym c.if-lost.true ∙ e in cc))
    c.loop-bytes.invariant.short

pub loop-bytes-preserved : goal.loop-bytes-preserved
loop-bytes-preserved c =
    takes-next (case_of c.args.case) c.args.posts c.loop-bytes.bytes-iterator c.in-Some.bytes.now c.next.new.self c.loop-bytes.first
    c.or-first.result c.loop-bytes.number c.loop-bytes.lost c.is_err-lost.result c.loop-bytes.all.items c.push.new.self.items
    c.in_ok-said.said
    c.loop-bytes.invariant c.in-Some.ensures.steps c.in_ok-said.ensures.exact c.in_ok-said.ensures.short
    (c.or-first.ensures ∙ or_first c.loop-bytes.first c.in_ok-said.said.header)
    (λ e. (
      c.if-lost.false,
      c.push.ensures.items ∙ cond-true (is_ok c.push.result) (c.loop-bytes.all.items ++ c.in_ok-said.said ∷ [])
          c.loop-bytes.all.items (c.is_err-lost.ensures.negation ∙ ap not e),
    ))
    (all_pushed (is_ok c.push.result) c.loop-bytes.all.items c.push.new.self.items c.in_ok-said.said c.push.ensures.items
    c.loop-bytes.invariant.short c.in_ok-said.ensures.short)

pub returns-then-lost-2-clause-memory : goal.returns-then-lost-2-clause-memory
returns-then-lost-2-clause-memory c = λ e.
    ok_is _ _ (takes-all (case_of c.args.case) c.args.posts c.loop-bytes.bytes-iterator c.loop-bytes.first c.loop-bytes.number
    c.loop-bytes.lost c.loop-bytes.all.items c.loop-bytes.invariant c.in-None.ensures.steps.0)

pub returns-clause-exact : goal.returns-clause-exact
returns-clause-exact c =
    takes-all (case_of c.args.case) c.args.posts c.loop-bytes.bytes-iterator c.loop-bytes.first c.loop-bytes.number c.loop-bytes.lost
    c.loop-bytes.all.items c.loop-bytes.invariant c.in-None.ensures.steps.0
    ∙ ap all_ok (sym (c.loop-bytes.invariant.whole c.if-lost-2.false))
  where
    all_ok : List Said → Result (List Said) FailedCheck
    all_ok said = Ok said
