use Rattle.std.proofs.Common.{◌≡◌, ℕ, ◌+◌, ◌-◌, List, ap, sym, ◌∙◌}
use Rattle.phase_message.specs.Shape.{Shape}
use Rattle.shuffle_blame.specs.Asked.{past_of}
use Rattle.round_spec.specs.Slots.{list_said, submit_stage}
use Rattle.honest_say.proofs.OwnRows.{turn-aborts, turn-says}
use Rattle.honest_say.proofs.turning.turn_body.Goals as goal

pub returns-in-None : goal.returns-in-None
returns-in-None c = λ config is own.
    let log = c.args.log.now in
    let seat = c.args.seat.now in
    let past : List (List ℕ) = past_of log (submit_stage log.shape c.args.shuffle + seat.number) in
    let stage : c.submit_stage.result ≡ submit_stage log.shape c.args.shuffle = c.submit_stage.ensures.value
    ∙ ap (λ (s : Shape). submit_stage s c.args.shuffle) (sym c.requires.shape) in
    let said = c.in_ok-list_said.ensures.value
    ∙ ap (λ (t : ℕ). list_said log.shape (past_of log (t + seat.number)) c.args.shuffle (seat.number - 1)) stage
    ∙ ap (λ (s : Shape). list_said s past c.args.shuffle (seat.number - 1)) c.requires.shape in
    let none = rw c.in-None.is at said in
    turn-aborts config seat past c.args.shuffle is (sym none)

pub returns-in_ok-body-in-Some : goal.returns-in_ok-body-in-Some
returns-in_ok-body-in-Some c = λ config is own.
    let log = c.args.log.now in
    let seat = c.args.seat.now in
    let past : List (List ℕ) = past_of log (submit_stage log.shape c.args.shuffle + seat.number) in
    let stage : c.submit_stage.result ≡ submit_stage log.shape c.args.shuffle = c.submit_stage.ensures.value
    ∙ ap (λ (s : Shape). submit_stage s c.args.shuffle) (sym c.requires.shape) in
    let said = c.in_ok-list_said.ensures.value
    ∙ ap (λ (t : ℕ). list_said log.shape (past_of log (t + seat.number)) c.args.shuffle (seat.number - 1)) stage
    ∙ ap (λ (s : Shape). list_said s past c.args.shuffle (seat.number - 1)) c.requires.shape in
    let some = rw c.in-Some.is at said in
    c.in_ok-body-in-Some.ensures.value ∙ turn-says config seat c.args.secrets.now past c.in-Some.list.items c.args.shuffle is own (sym some)
