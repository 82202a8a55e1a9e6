use Rattle.std.proofs.Common.{◌≡◌, ℕ, ◌+◌, List, sym, ap, ◌∙◌, subst, arith}
use Rattle.std.specs.Prelude.{if◌then◌else◌}
use Rattle.std.specs.List.{list_any}
use Rattle.std.specs.Option.{option_map}
use Rattle.shuffle_blame.specs.Asked.{past_of}
use Rattle.bulk_descriptor.specs.declared.slot_state.SlotState.{SlotState}
use Rattle.phase_message.specs.Shape.{Shape}
use Rattle.honest_say.specs.Opened.{AreSlotsSaid}
use Rattle.round_spec.specs.Slots.{slots_of_past}
use Rattle.round_spec.specs.Verdict.{Goes, Done, is_bad}
use Rattle.closing_verdict.specs.Judgement.{completed_of}
use Rattle.closing_verdict.proofs.Carrying.{items-now, opened-there}
use Rattle.phase_message.proofs.StageCounts.{confirm-at}
use Rattle.closing_verdict.proofs.judging.Closing.judge_slots.Goals as goal

pub slots_said-requires-clause-opened : goal.slots_said-requires-clause-opened
slots_said-requires-clause-opened c =
    let log = c.args.self.log.now in
    let at = confirm-at log.shape c.args.self.stage c.requires.at in
    let there = opened-there log c.args.self.stage _ c.in-Some.opened.now.items c.requires.closing.opened
    (ap (option_map (λ items. items.now.items)) c.in-Some.is) in
    items-now (completed_of c.args.self) c.in-Some.opened.now.items c.requires.closing.complete (omega (arith, at)) there

pub returns : goal.returns
returns c =
    let log = c.args.self.log.now in
    let past : List (List ℕ) = past_of log (c.args.self.stage + 1) in
    let at = confirm-at log.shape c.args.self.stage c.requires.at in
    let next : c.args.self.stage + 1 ≡ log.shape.members + 7 = omega (arith, at) in
    let states = c.in_ok-slots.ensures.states ∙ ap (λ (shape : Shape). slots_of_past shape (past_of log (c.args.self.stage + 1)))
    c.requires.closing.complete.shape in
    record {
      at = c.requires.at;
      verdict = c.requires.agree ∙ ap (λ (states : List SlotState). if list_any is_bad states then Goes else Done) (sym states);
      found = subst (λ (stage : ℕ). AreSlotsSaid log.shape (past_of log stage) c.in_ok-slots.slots) next c.in_ok-slots.ensures;
    }
