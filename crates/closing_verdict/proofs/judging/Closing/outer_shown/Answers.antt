use Rattle.std.proofs.Common.{Some, ap, sym, ◌∙◌}
use Rattle.phase_message.specs.declared.stage.StageKind.{StageKind}
use Rattle.phase_message.specs.Shape.{Shape}
use Rattle.phase_message.specs.Stages.{kind_of_stage}
use Rattle.round_spec.specs.Slots.{by_member}
use Rattle.round_spec.specs.Verdict.{closing_body, shown_at, shown_in}
use Rattle.closing_verdict.specs.Judgement.{Completed, completed_of, stage_closed}
use Rattle.closing_verdict.proofs.Agreements.{all-parts, parts-told}
use Rattle.closing_verdict.proofs.ClosingPosts.{if-ok}
use Rattle.closing_verdict.proofs.judging.Closing.outer_shown.Goals as goal

pub parts_shown-requires : goal.parts_shown-requires
parts_shown-requires c =
    let x : Completed = completed_of c.args.self in
    let is = c.requires.closing.complete in
    let kind = ap (λ (shape : Shape). kind_of_stage shape c.args.self.stage) (is.shape ∙ sym c.shape.ensures)
    ∙ sym c.stage_kind.ensures.kind ∙ c.in-Some-Final.is
    ∙ ap (λ (k : StageKind). Some k) c.in-Some-Final.field-0-is in
    all-parts x c.args.told.now c.in-Some-Final.field-0-0 is c.requires.told kind c.requires.differ

pub returns-in-Some-Final : goal.returns-in-Some-Final
returns-in-Some-Final c =
    let x : Completed = completed_of c.args.self in
    let is = c.requires.closing.complete in
    let kind = ap (λ (shape : Shape). kind_of_stage shape c.args.self.stage) (is.shape ∙ sym c.shape.ensures)
    ∙ sym c.stage_kind.ensures.kind ∙ c.in-Some-Final.is
    ∙ ap (λ (k : StageKind). Some k) c.in-Some-Final.field-0-is in
    if-ok _ _ c.parts_shown.result (λ shown are.
    are ∙ parts-told x c.args.told.now c.requires.told
    ∙ ap (λ (shape : Shape). by_member shape (λ member. shown_in (closing_body (stage_closed x) member))) is.shape
    ∙ ap (shown_at (stage_closed x)) (sym kind)) c.parts_shown.ensures
