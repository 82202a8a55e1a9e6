use Rattle.std.proofs.Common.{◌≡◌, List, Option, Some, None, ap, sym, ◌∙◌, subst}
use Rattle.std.specs.Prelude.{IfOk}
use Rattle.std.specs.Option.{option_map}
use Rattle.phase_message.specs.declared.stage.Slot.{Slot}
use Rattle.phase_message.specs.declared.stage.StageKind.{StageKind}
use Rattle.phase_message.specs.Stages.{kind_of_stage}
use Rattle.shuffle_blame.specs.declared.fault.Cause.TheVariants.{View}
use Rattle.shuffle_blame.specs.declared.fault.Fault.{Fault}
use Rattle.shuffle_blame.specs.declared.fault.Shown.{Shown}
use Rattle.shuffle_blame.specs.Asked.{inquiry_of}
use Rattle.shuffle_blame.specs.Rules.{fault_shown}
use Rattle.shuffle_blame.specs.Replay.{Inquiry, culprit_of, fault, view_fault, vote_fault}
use Rattle.shuffle_blame.proofs.Culprits.{culprit-parts, first-is, second-is, third-is, view-told}
use Rattle.shuffle_blame.proofs.culprit.replay.Goals as goal

pub returns-in-Some-clause-culprit : goal.returns-in-Some-clause-culprit
returns-in-Some-clause-culprit c =
    let q : Inquiry = inquiry_of c.args.log.now c.args.stage c.args.round c.args.shown.now.items in
    let kind : Option StageKind = kind_of_stage c.args.log.now.shape c.args.stage in
    let view : view_fault q ≡ Some (fault View c.in-Some.slot.sender)
    = view-told c.args.log.now c.args.stage c.args.round c.args.shown.now.items c.wrong_views.result c.wrong_views.ensures
    ∙ ap (option_map (λ (slot : Slot). fault View slot.sender)) c.in-Some.is in
    sym (culprit-parts kind q ∙ first-is (view_fault q) (fault_shown kind q) (vote_fault q) (fault View c.in-Some.slot.sender) view)

pub returns-in-Some-2-clause-culprit : goal.returns-in-Some-2-clause-culprit
returns-in-Some-2-clause-culprit c =
    let q : Inquiry = inquiry_of c.args.log.now c.args.stage c.args.round c.args.shown.now.items in
    let kind : Option StageKind = kind_of_stage c.args.log.now.shape c.args.stage in
    let view : view_fault q ≡ None
    = view-told c.args.log.now c.args.stage c.args.round c.args.shown.now.items c.wrong_views.result c.wrong_views.ensures
    ∙ ap (option_map (λ (slot : Slot). fault View slot.sender)) c.in_default.is in
    let told : c.in_ok-fault.field-0 ≡ fault_shown kind q
    = c.in_ok-fault.ensures ∙ ap (λ (shown : List Shown). fault_shown kind (inquiry_of c.args.log.now c.args.stage c.args.round shown))
    c.deref.ensures.value in
    sym (culprit-parts kind q ∙ second-is (view_fault q) (fault_shown kind q) (vote_fault q) c.in-Some-2.fault view
    (sym told ∙ c.in-Some-2.is))

pub returns-clause-culprit : goal.returns-clause-culprit
returns-clause-culprit c =
    let q : Inquiry = inquiry_of c.args.log.now c.args.stage c.args.round c.args.shown.now.items in
    let kind : Option StageKind = kind_of_stage c.args.log.now.shape c.args.stage in
    let view : view_fault q ≡ None
    = view-told c.args.log.now c.args.stage c.args.round c.args.shown.now.items c.wrong_views.result c.wrong_views.ensures
    ∙ ap (option_map (λ (slot : Slot). fault View slot.sender)) c.in_default.is in
    let told : c.in_ok-fault.field-0 ≡ fault_shown kind q
    = c.in_ok-fault.ensures ∙ ap (λ (shown : List Shown). fault_shown kind (inquiry_of c.args.log.now c.args.stage c.args.round shown))
    c.deref.ensures.value in
    let last : vote_fault q ≡ culprit_of q
    = sym (culprit-parts kind q ∙ third-is (view_fault q) (fault_shown kind q) (vote_fault q) view (sym told ∙ c.in_default-2.is)) in
    subst (λ (x : Option Fault). IfOk c.vote_fault.result (λ fault. fault ≡ x)) last c.vote_fault.ensures
