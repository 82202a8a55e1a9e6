use Rattle.std.proofs.Common.{◌≡◌, ℕ, ◌+◌, List, Some, ap, sym, ◌∙◌, arith}
use Rattle.phase_message.specs.Shape.{Shape}
use Rattle.shuffle_blame.specs.Asked.{past_of}
use Rattle.shuffle_blame.specs.Replay.{list_of}
use Rattle.round_spec.specs.Slots.{list_said, said_in, submit_stage}
use Rattle.honest_say.proofs.OwnRows.{list-said}
use Rattle.honest_say.proofs.StageLemmas.{turn-slot}
use Rattle.honest_say.proofs.said.list_said.Goals as goal

pub returns-then-turn-eq0-clause-value : goal.returns-then-turn-eq0-clause-value
returns-then-turn-eq0-clause-value c =
    let log = c.args.log.now in
    let none : 0 ≡ c.args.turn = omega arith in
    ap (λ (list : List (List ℕ)). Some list) c.in_ok-list.ensures.value
    ∙ ap (list_said log.shape (past_of log c.args.stage) c.args.shuffle) none

pub turn_said-requires-clause-slot : goal.turn_said-requires-clause-slot
turn_said-requires-clause-slot c =
    let log = c.args.log.now in
    let stage : submit_stage log.shape c.args.shuffle ≡ c.submit_stage.result
    = ap (λ (s : Shape). submit_stage s c.args.shuffle) (sym c.shape-shape.ensures.shape) ∙ sym c.submit_stage.ensures.value in
    rw (← stage) (turn-slot log.shape c.args.shuffle c.args.turn c.requires.first c.requires.last (omega arith) c.requires.turn)

pub turn_said-requires-clause-earlier : goal.turn_said-requires-clause-earlier
turn_said-requires-clause-earlier c =
    let log = c.args.log.now in
    let stage : submit_stage log.shape c.args.shuffle ≡ c.submit_stage.result
    = ap (λ (s : Shape). submit_stage s c.args.shuffle) (sym c.shape-shape.ensures.shape) ∙ sym c.submit_stage.ensures.value in
    omega (arith, stage, c.requires.earlier)

pub returns-clause-value : goal.returns-clause-value
returns-clause-value c =
    let log = c.args.log.now in
    let stage : c.submit_stage.result ≡ submit_stage log.shape c.args.shuffle
    = c.submit_stage.ensures.value ∙ ap (λ (s : Shape). submit_stage s c.args.shuffle) c.shape-shape.ensures.shape in
    c.in_ok-said.ensures.value
    ∙ ap (λ (t : ℕ). list_of (said_in log.shape (past_of log c.args.stage) (t + c.args.turn) c.args.turn)) stage
    ∙ list-said log.shape (past_of log c.args.stage) c.args.shuffle c.args.turn (omega arith)
