use Rattle.std.proofs.Common.{◌≡◌, ℕ, List, ap, ◌∙◌, arith}
use Rattle.std.proofs.lemmas.Result.{IfOk-weaker}
use Rattle.phase_message.specs.declared.stage.StageKind.TheVariants.{Pad}
use Rattle.shuffle_blame.specs.Asked.{past_of}
use Rattle.round_spec.specs.Slots.{items_opened}
use Rattle.round_spec.specs.Say.{pads_row}
use Rattle.honest_say.specs.Own.{AreBulkSecrets}
use Rattle.closing_verdict.specs.Carried.{AreItemsOf, stage_opened}
use Rattle.member_core.proofs.Belonging.{carried-items, carries-late, held-is, holds-bulk, not-missing}
use Rattle.member_core.proofs.Due.{pads-due}
use Rattle.member_core.proofs.StageKinds.{kind-place}
use Rattle.member_core.proofs.machine.Machine.pads_due.Goals as goal

pub unreachable-requires : goal.unreachable-requires
unreachable-requires c =
    let m = c.args.self.now in
    let at = (kind-place m.log.shape m.stage Pad c.requires.kind).at in
    not-missing m.secrets.bulk (holds-bulk m c.requires.needed c.requires.asked (omega (arith, at))) c.in_default.is

pub unreachable-unreachable : goal.unreachable-unreachable
unreachable-unreachable c = c.unreachable.type_inv

pub unreachable-requires-in_default-opened : goal.unreachable-requires-in_default-opened
unreachable-requires-in_default-opened c =
    let m = c.args.self.now in
    let at = (kind-place m.log.shape m.stage Pad c.requires.kind).at in
    let early = carries-late m.log m.stage (λ items. items.items) m.opened c.in_default-opened.is c.requires.ready.opened in
    omega (arith, at, early)

pub unreachable-unreachable-in_default-opened : goal.unreachable-unreachable-in_default-opened
unreachable-unreachable-in_default-opened c = c.unreachable-in_default-opened.type_inv

pub returns : goal.returns
returns c = IfOk-weaker c.pads_body.result _ _ (λ body said now.
    let m = c.args.self.now in
    let at = (kind-place m.log.shape m.stage Pad c.requires.kind).at in
    let items : AreItemsOf m.log c.in-Some-opened.opened.items = carried-items m.log m.stage (λ items. items.items) m.opened
    c.in-Some-opened.opened c.in-Some-opened.is c.requires.ready.opened in
    let here : stage_opened m.log ≡ m.stage = omega (arith, at) in
    pads-due now m body c.in-Some-opened.opened.items c.requires.formed c.requires.asked c.requires.kind
    (items.are ∙ ap (λ (s : ℕ). items_opened m.log.shape (past_of m.log s) 1) here) items.count
    (λ config seat secrets pad opened.
    said config (past_of m.log m.stage) seat (held-is m.secrets.bulk c.in-Some.bulk (AreBulkSecrets config) c.in-Some.is secrets.bulk)
    (c.deref-2.ensures.value ∙ c.items-pad.ensures ∙ pad) opened
    ∙ ap (λ (own : List ℕ). pads_row config own (past_of m.log m.stage)) (c.deref.ensures.value ∙ c.items-own.ensures))) c.pads_body.ensures
