-- The row of a kind, where it takes no secret and asks about no descriptor.
use Rattle.std.proofs.Common.{◌≡◌, ℕ, Option, Some, ap, sym, ◌∙◌, subst, inl, inr}
use Rattle.std.proofs.lemmas.Result.{IfOk-weaker}
use Rattle.phase_message.specs.declared.content.Body.{Body}
use Rattle.phase_message.specs.declared.stage.StageKind.{StageKind}
use Rattle.phase_message.specs.declared.stage.StageKind.TheVariants.{Shuffle}
use Rattle.phase_message.specs.Stages.{kind_of_stage}
use Rattle.member_spec.specs.Replies.{Replies}
use Rattle.member_core.specs.declared.machine.Machine.{Machine}
use Rattle.member_core.specs.Asking.{IsDue, IsPlainKind, IsToBeAsked}
use Rattle.member_core.proofs.Dispatch.{due-of}
use Rattle.member_core.proofs.StageKinds.{turn-own}
use Rattle.member_core.proofs.machine.Machine.row_due.Goals as goal

-- a stage of a kind is of the same one under another name
at-kind : {stage : Option StageKind} {kind same : StageKind} → stage ≡ Some kind → kind ≡ same → stage ≡ Some same
at-kind here is = here ∙ ap (λ (k : StageKind). Some k) is

-- a turn at which it speaks is its own
own-turn : (m : Machine) {kind : StageKind} {shuffle k : ℕ} → kind_of_stage m.log.shape m.stage ≡ Some kind → IsToBeAsked m
    → kind ≡ Shuffle shuffle k → kind_of_stage m.log.shape m.stage ≡ Some (Shuffle shuffle m.seat.number)
own-turn m {shuffle = shuffle} {k = k} here asked is =
    let at = at-kind here is in
    at ∙ ap (λ turn. Some (Shuffle shuffle turn)) (sym (turn-own m.log.shape m.stage m.seat.number shuffle k at asked.speaks))

-- what is due at a kind is due at the same one
due-at : (now : Replies) (m : Machine) {kind same : StageKind} {body : Body} → kind ≡ same → IsDue now m same body → IsDue now m kind body
due-at now m {body = body} is due = subst (λ (k : StageKind). IsDue now m k body) (sym is) due

pub keys_due-requires : goal.keys_due-requires
keys_due-requires c = record {
  formed = c.requires.formed;
  ready = c.requires.ready;
  needed = c.requires.needed;
  asked = c.requires.asked;
  kind = at-kind c.requires.kind c.in-Keys.is;
}

pub turn_due-requires : goal.turn_due-requires
turn_due-requires c = record {
  formed = c.requires.formed;
  ready = c.requires.ready;
  needed = c.requires.needed;
  asked = c.requires.asked;
  kind = own-turn c.args.self.now c.requires.kind c.requires.asked c.in-Shuffle.is;
}

pub go_due-requires : goal.go_due-requires
go_due-requires c = record {
  formed = c.requires.formed;
  ready = c.requires.ready;
  asked = c.requires.asked;
  kind = at-kind c.requires.kind c.in-Go.is;
}

pub pads_due-requires : goal.pads_due-requires
pads_due-requires c = record {
  formed = c.requires.formed;
  ready = c.requires.ready;
  needed = c.requires.needed;
  asked = c.requires.asked;
  kind = at-kind c.requires.kind c.in-Pad.is;
}

pub check_due-requires : goal.check_due-requires
check_due-requires c = record {
  formed = c.requires.formed;
  ready = c.requires.ready;
  asked = c.requires.asked;
  kind = at-kind c.requires.kind c.in-Check.is;
}

pub confirm_due-requires : goal.confirm_due-requires
confirm_due-requires c = record {
  formed = c.requires.formed;
  ready = c.requires.ready;
  asked = c.requires.asked;
  kind = at-kind c.requires.kind c.in-Confirm.is;
}

pub unreachable-requires : goal.unreachable-requires
unreachable-requires c = elim c.in-Submit.is [
  | inl submit ↦ subst IsPlainKind submit.1 c.requires.plain
  | inr end ↦ subst IsPlainKind end.1 c.requires.plain
]

pub unreachable-unreachable : goal.unreachable-unreachable
unreachable-unreachable c = c.unreachable.result

pub returns-in-Keys : goal.returns-in-Keys
returns-in-Keys c now = due-at now c.args.self.now c.in-Keys.is (c.keys_due.ensures now)

pub returns-in-Shuffle : goal.returns-in-Shuffle
returns-in-Shuffle c =
    let m = c.args.self.now in
    IfOk-weaker c.turn_due.result _ _ (λ body due now. due-of now m (Shuffle c.in-Shuffle.shuffle m.seat.number) c.args.kind body
    (own-turn m c.requires.kind c.requires.asked c.in-Shuffle.is) c.requires.kind (due now)) c.turn_due.ensures

pub returns-in-Go : goal.returns-in-Go
returns-in-Go c = IfOk-weaker c.go_due.result _ _ (λ body due now. due-at now c.args.self.now c.in-Go.is (due now)) c.go_due.ensures

pub returns-in-Pad : goal.returns-in-Pad
returns-in-Pad c = IfOk-weaker c.pads_due.result _ _ (λ body due now. due-at now c.args.self.now c.in-Pad.is (due now)) c.pads_due.ensures

pub returns-in-Check : goal.returns-in-Check
returns-in-Check c now = due-at now c.args.self.now c.in-Check.is (c.check_due.ensures now)

pub returns-in-Confirm : goal.returns-in-Confirm
returns-in-Confirm c = IfOk-weaker c.confirm_due.result _ _ (λ body due now. due-at now c.args.self.now c.in-Confirm.is (due now))
    c.confirm_due.ensures
