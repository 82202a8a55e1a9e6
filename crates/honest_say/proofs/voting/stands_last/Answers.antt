use Rattle.std.proofs.Common.{◌≡◌, ℕ, ◌+◌, ◌-◌, ◌<◌, List, ap, sym, ◌∙◌, subst, arith}
use Rattle.std.specs.Prelude.{IsSome}
use Rattle.std.specs.List.{list_any}
use Rattle.std.specs.Str.{bytes_eq}
use Rattle.phase_message.specs.Shape.{Shape}
use Rattle.stage_log.specs.Log.{before}
use Rattle.shuffle_blame.specs.Asked.{past_of}
use Rattle.go_nogo.specs.Rows.{lists_before, stands_in}
use Rattle.round_spec.specs.Slots.{final_stage, list_said, submit_stage}
use Rattle.honest_say.proofs.VotingLemmas.{IsVotedOn, last-list, none-stands, voted_on}
use Rattle.honest_say.proofs.voting.stands_last.Goals as goal

pub returns-then-has_abort : goal.returns-then-has_abort
returns-then-has_abort c =
    let log = c.args.log.now in
    none-stands log.shape c.args.entry.now (lists_before log.shape (voted_on log c.args.shuffle) (final_stage log.shape c.args.shuffle - 1))
    (sym c.has_abort.ensures ∙ c.if-has_abort.true)

pub list_said-requires-clause-turn : goal.list_said-requires-clause-turn
list_said-requires-clause-turn c =
    let members = ap (λ (s : Shape). s.members) c.shape-shape.ensures.shape in
    omega (arith, members)

pub list_said-requires-clause-complete : goal.list_said-requires-clause-complete
list_said-requires-clause-complete c =
    let log = c.args.log.now in
    let stage : c.final_stage-stage.result ≡ final_stage log.shape c.args.shuffle
    = c.final_stage-stage.ensures ∙ ap (λ (s : Shape). final_stage s c.args.shuffle) c.shape-shape.ensures.shape in
    subst (λ (t : ℕ). IsSome (before log (t - 1))) (sym stage) c.requires.complete

pub list_said-requires-clause-earlier : goal.list_said-requires-clause-earlier
list_said-requires-clause-earlier c =
    let log = c.args.log.now in
    let members = ap (λ (s : Shape). s.members) c.shape-shape.ensures.shape in
    let stage : c.final_stage-stage.result ≡ final_stage log.shape c.args.shuffle
    = c.final_stage-stage.ensures ∙ ap (λ (s : Shape). final_stage s c.args.shuffle) c.shape-shape.ensures.shape in
    let earlier : submit_stage log.shape c.args.shuffle + log.shape.members < final_stage log.shape c.args.shuffle - 1 = omega arith in
    omega (arith, members, stage, earlier)

pub returns-in-None : goal.returns-in-None
returns-in-None c =
    let log = c.args.log.now in
    let members = ap (λ (s : Shape). s.members) c.shape-shape.ensures.shape in
    let stage : c.final_stage-stage.result ≡ final_stage log.shape c.args.shuffle
    = c.final_stage-stage.ensures ∙ ap (λ (s : Shape). final_stage s c.args.shuffle) c.shape-shape.ensures.shape in
    let voted : IsVotedOn log c.args.shuffle = record {
      is = c.shape-shape.ensures.form;
      first = c.requires.first;
      last = c.requires.last;
      complete = c.requires.complete;
    } in
    let full = sym c.has_abort.ensures ∙ c.if-has_abort.false in
    let said = c.in_ok-list_said.ensures.value
    ∙ ap (λ (t : ℕ). list_said log.shape (past_of log (t - 1)) c.args.shuffle c.shape-shape.result.members) stage
    ∙ ap (list_said log.shape (voted_on log c.args.shuffle) c.args.shuffle) members in
    let none = rw c.in-None.is at said in
    ap (stands_in c.args.entry.now) none ∙ sym (last-list log c.args.shuffle c.args.entry.now voted full)

pub returns-in-Some : goal.returns-in-Some
returns-in-Some c =
    let log = c.args.log.now in
    let members = ap (λ (s : Shape). s.members) c.shape-shape.ensures.shape in
    let stage : c.final_stage-stage.result ≡ final_stage log.shape c.args.shuffle
    = c.final_stage-stage.ensures ∙ ap (λ (s : Shape). final_stage s c.args.shuffle) c.shape-shape.ensures.shape in
    let voted : IsVotedOn log c.args.shuffle = record {
      is = c.shape-shape.ensures.form;
      first = c.requires.first;
      last = c.requires.last;
      complete = c.requires.complete;
    } in
    let full = sym c.has_abort.ensures ∙ c.if-has_abort.false in
    let said = c.in_ok-list_said.ensures.value
    ∙ ap (λ (t : ℕ). list_said log.shape (past_of log (t - 1)) c.args.shuffle c.shape-shape.result.members) stage
    ∙ ap (list_said log.shape (voted_on log c.args.shuffle) c.args.shuffle) members in
    let some = rw c.in-Some.is at said in
    c.is_among.ensures
    ∙ ap (λ (t : List (List ℕ)). list_any (bytes_eq c.args.entry.now) t) c.deref.ensures.value
    ∙ ap (stands_in c.args.entry.now) some
    ∙ sym (last-list log c.args.shuffle c.args.entry.now voted full)
