use Rattle.std.proofs.Common.{◌≡◌, ℕ, ◌+◌, Option, List, map, ap, sym, ◌∙◌, arith}
use Rattle.std.specs.Prelude.{option_map, unwrap_or}
use Rattle.phase_message.specs.Shape.{Shape}
use Rattle.shuffle_blame.specs.Asked.{past_of}
use Rattle.transcript_form.specs.declared.accusation.Accusation.{Accusation}
use Rattle.round_spec.specs.Slots.{items_opened}
use Rattle.round_spec.specs.Verdict.{Done, Verdict, bad_pad, first_bad_pad}
use Rattle.wire_core.specs.Answers.{first_some}
use Rattle.closing_verdict.specs.Judgement.{Completed, IsComplete, completed_of, stage_closed}
use Rattle.closing_verdict.specs.Telling.{held_by}
use Rattle.closing_verdict.proofs.Accusings.{held-told, pad-told}
use Rattle.closing_verdict.proofs.ClosedStages.{end-second}
use Rattle.closing_verdict.proofs.judging.Closing.judge_accusations.Goals as goal

pub opened_items-requires-clause-later : goal.opened_items-requires-clause-later
opened_items-requires-clause-later c =
    let ends = (end-second c.args.self.log.now.shape c.args.self.stage 2 c.requires.at (λ e. omega (arith, e))).1 in
    omega (arith, ends)

pub first_that_holds-requires-clause-late : goal.first_that_holds-requires-clause-late
first_that_holds-requires-clause-late c =
    let ends = (end-second c.args.self.log.now.shape c.args.self.stage 2 c.requires.at (λ e. omega (arith, e))).1 in
    omega (arith, ends)

pub convict_pad-requires-clause-late : goal.convict_pad-requires-clause-late
convict_pad-requires-clause-late c =
    let ends = (end-second c.args.self.log.now.shape c.args.self.stage 2 c.requires.at (λ e. omega (arith, e))).1 in
    omega (arith, ends)

pub convict_pad-requires-clause-held : goal.convict_pad-requires-clause-held
convict_pad-requires-clause-held c =
    held-told (stage_closed (completed_of c.args.self)) c.deref.result.now c.in-Some.accusation
    (sym c.first_that_holds.ensures ∙ c.in-Some.is)

-- what the first accusation that holds comes to
pad-found : (c : Completed) (given items : List (Option (List ℕ))) (found : Option Accusation) → IsComplete c → given ≡ items
    → items ≡ items_opened c.log.shape (past_of c.log (c.stage + 1)) 2 → found ≡ first_some (map (held_by (stage_closed c)) given)
    → first_bad_pad (stage_closed c) ≡ option_map (bad_pad (stage_closed c)) found
pad-found c given items found is same are found_is =
    pad-told (stage_closed c) given found (same ∙ are ∙ ap (λ (shape : Shape). items_opened shape (past_of c.log (c.stage + 1)) 2) is.shape)
    found_is

pub convict_pad-requires-clause-verdict : goal.convict_pad-requires-clause-verdict
convict_pad-requires-clause-verdict c =
    let x : Completed = completed_of c.args.self in
    let first = pad-found x c.deref.result.now c.in_ok-items.items.items c.first_that_holds.result c.requires.closing.complete
    c.deref.ensures.value c.in_ok-items.ensures.value c.first_that_holds.ensures in
    c.requires.agree ∙ ap (λ (o : Option Verdict). unwrap_or o Done) (first ∙ ap (option_map (bad_pad (stage_closed x))) c.in-Some.is)

pub returns : goal.returns
returns c =
    let x : Completed = completed_of c.args.self in
    let first = pad-found x c.deref.result.now c.in_ok-items.items.items c.first_that_holds.result c.requires.closing.complete
    c.deref.ensures.value c.in_ok-items.ensures.value c.first_that_holds.ensures in
    record {
      at = c.requires.at;
      verdict = c.requires.agree ∙ ap (λ (o : Option Verdict). unwrap_or o Done)
          (first ∙ ap (option_map (bad_pad (stage_closed x))) c.in-None.is);
    }
