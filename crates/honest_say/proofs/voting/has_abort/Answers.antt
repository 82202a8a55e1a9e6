use Rattle.std.proofs.Common.{◌≡◌, ℕ, ◌+◌, true, false, inl, inr, ap, sym, ◌∙◌, subst, arith}
use Rattle.std.specs.Prelude.{is_none}
use Rattle.std.proofs.lemmas.Bool.{cases_eq}
use Rattle.phase_message.specs.Shape.{Shape}
use Rattle.phase_message.specs.Stages.{kind_of_stage}
use Rattle.round_spec.specs.Slots.{submit_stage}
use Rattle.shuffle_blame.specs.Replay.{list_of}
use Rattle.shuffle_blame.specs.Rules.{body_kept}
use Rattle.honest_say.specs.Rows.{IsTurn}
use Rattle.honest_say.proofs.StageLemmas.{turn-kind}
use Rattle.honest_say.proofs.VotingLemmas.{is_aborted, missing-turn, no-missing-turn}
use Rattle.honest_say.proofs.voting.has_abort.Goals as goal

pub is_abort-requires-clause-turn : goal.is_abort-requires-clause-turn
is_abort-requires-clause-turn c =
    let log = c.args.log.now in
    let members = ap (λ (s : Shape). s.members) c.shape-shape.ensures.shape in
    let stage : c.submit_stage.result ≡ submit_stage log.shape c.args.shuffle
    = c.submit_stage.ensures.value ∙ ap (λ (s : Shape). submit_stage s c.args.shuffle) c.shape-shape.ensures.shape in
    let kind = turn-kind log.shape c.args.shuffle c.loop-turn.turn c.requires.first c.requires.last (omega arith) (omega (arith, members))
    in
    subst IsTurn (sym (ap (λ (t : ℕ). kind_of_stage log.shape (t + c.loop-turn.turn)) stage ∙ kind)) (tt {0})

pub returns-then-is_abort : goal.returns-then-is_abort
returns-then-is_abort c =
    let log = c.args.log.now in
    let members = ap (λ (s : Shape). s.members) c.shape-shape.ensures.shape in
    let stage : c.submit_stage.result ≡ submit_stage log.shape c.args.shuffle
    = c.submit_stage.ensures.value ∙ ap (λ (s : Shape). submit_stage s c.args.shuffle) c.shape-shape.ensures.shape in
    let here : is_aborted log c.args.shuffle c.loop-turn.turn ≡ true
    = ap (λ (t : ℕ). is_none (list_of (body_kept log (record { stage = t + c.loop-turn.turn; sender = c.loop-turn.turn })))) (sym stage)
    ∙ sym c.is_abort.ensures ∙ c.if-is_abort.true in
    sym (missing-turn log c.args.shuffle c.loop-turn.turn
    (record { is = c.shape-shape.ensures.form; first = c.requires.first; last = c.requires.last; complete = c.requires.complete })
    (omega arith) (omega (arith, members)) here)

pub loop-turn-preserved : goal.loop-turn-preserved
loop-turn-preserved c =
    let log = c.args.log.now in
    let stage : c.submit_stage.result ≡ submit_stage log.shape c.args.shuffle
    = c.submit_stage.ensures.value ∙ ap (λ (s : Shape). submit_stage s c.args.shuffle) c.shape-shape.ensures.shape in
    let here : is_aborted log c.args.shuffle c.loop-turn.turn ≡ false
    = ap (λ (t : ℕ). is_none (list_of (body_kept log (record { stage = t + c.loop-turn.turn; sender = c.loop-turn.turn })))) (sym stage)
    ∙ sym c.is_abort.ensures ∙ c.if-is_abort.false in
    λ turn least lt. elim (cases_eq turn c.loop-turn.turn) [
      | inl e ↦ subst (λ (t : ℕ). is_aborted log c.args.shuffle t ≡ false) (sym e) here
      | inr other ↦ c.loop-turn.invariant turn least (omega (arith, lt, other))
    ]

pub returns : goal.returns
returns c =
    let log = c.args.log.now in
    let members = ap (λ (s : Shape). s.members) c.shape-shape.ensures.shape in
    sym (no-missing-turn log c.args.shuffle (record {
      is = c.shape-shape.ensures.form;
      first = c.requires.first;
      last = c.requires.last;
      complete = c.requires.complete;
    })
    (λ turn least most. c.loop-turn.invariant turn least (omega (arith, members, most))))
