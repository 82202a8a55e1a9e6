use Rattle.std.proofs.Common.{◌≡◌, ℕ, List, length, Option, Some, ap, sym, ◌∙◌, subst, arith}
use Rattle.std.specs.Prelude.{IfOk}
use Rattle.std.proofs.lemmas.List.{length-map}
use Rattle.phase_message.specs.declared.stage.StageKind.{StageKind}
use Rattle.phase_message.specs.declared.stage.StageKind.TheVariants.{Final}
use Rattle.phase_message.specs.Shape.{Shape}
use Rattle.phase_message.specs.Stages.{kind_of_stage}
use Rattle.shuffle_blame.specs.declared.fault.Fault.{Fault}
use Rattle.shuffle_blame.specs.declared.fault.Shown.{Shown}
use Rattle.shuffle_blame.specs.declared.parts.Part.{Part}
use Rattle.shuffle_blame.specs.Rules.{shown_by}
use Rattle.shuffle_blame.proofs.Culprits.{shown-length, shown-told}
use Rattle.shuffle_blame.proofs.culprit.fault_shown.Goals as goal

pub shuffle_fault-requires : goal.shuffle_fault-requires
shuffle_fault-requires c =
    let shuffle : ℕ = c.in-Some-Final.shuffle in
    let inner : c.in-Some-Final.field-0 ≡ Final shuffle = cc in
    let kind : kind_of_stage c.args.log.now.shape c.args.stage ≡ Some (Final shuffle)
    = ap (λ (s : Shape). kind_of_stage s c.args.stage) (sym c.shape.ensures.shape) ∙ sym c.in-Some-Final.ensures.kind
    ∙ ap (λ (k : StageKind). Some k) inner in
    let same : shown_by c.deref.result.now ≡ c.args.shown.now = ap shown_by c.deref.ensures.value ∙ c.in_ok-parts-in-Some-Final.ensures in
    record {
      ends = kind;
      complete = c.requires.complete;
      each_shows = omega (
        arith,
        length-map c.deref.result.now (λ (part : Part). part.shown),
        ap (λ (s : List Shown). length s) same,
        shown-length c.args.log.now.shape (kind_of_stage c.args.log.now.shape c.args.stage) shuffle c.args.shown.now kind
            c.requires.shown,
      );
    }

pub returns-in_ok-parts-in-Some-Final : goal.returns-in_ok-parts-in-Some-Final
returns-in_ok-parts-in-Some-Final c =
    let shuffle : ℕ = c.in-Some-Final.shuffle in
    let inner : c.in-Some-Final.field-0 ≡ Final shuffle = cc in
    let kind : kind_of_stage c.args.log.now.shape c.args.stage ≡ Some (Final shuffle)
    = ap (λ (s : Shape). kind_of_stage s c.args.stage) (sym c.shape.ensures.shape) ∙ sym c.in-Some-Final.ensures.kind
    ∙ ap (λ (k : StageKind). Some k) inner in
    let same : shown_by c.deref.result.now ≡ c.args.shown.now = ap shown_by c.deref.ensures.value ∙ c.in_ok-parts-in-Some-Final.ensures in
    subst (λ (x : Option Fault). IfOk c.shuffle_fault.result (λ fault. fault ≡ x))
    (shown-told c.args.log.now c.args.stage c.args.round shuffle c.args.shown.now c.deref.result.now kind same) c.shuffle_fault.ensures
