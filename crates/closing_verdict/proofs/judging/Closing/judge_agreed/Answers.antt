use Rattle.std.proofs.Common.{◌≡◌, None, ap, sym, ◌∙◌}
use Rattle.phase_message.specs.Shape.{Shape}
use Rattle.phase_message.specs.Stages.{kind_of_stage}
use Rattle.round_spec.specs.Verdict.{agreed_at}
use Rattle.closing_verdict.specs.Judgement.{completed_of, stage_closed}
use Rattle.closing_verdict.specs.Telling.{shuffle_ended}
use Rattle.closing_verdict.proofs.Agreements.{agreed-verdict}
use Rattle.closing_verdict.proofs.ClosedStages.{none-ended}
use Rattle.closing_verdict.proofs.judging.Closing.judge_agreed.Goals as goal

pub judge_slots-requires-clause-agree : goal.judge_slots-requires-clause-agree
judge_slots-requires-clause-agree c =
    let log = c.args.self.log.now in
    let is = c.requires.closing.complete in
    let kind = ap (λ (shape : Shape). kind_of_stage shape c.args.self.stage) (is.shape ∙ sym c.shape.ensures)
    ∙ sym c.stage_kind.ensures.kind in
    let none : shuffle_ended (kind_of_stage log.shape c.args.self.stage) ≡ None = ap shuffle_ended kind ∙ sym c.shuffle_ended.ensures
    ∙ c.in-None.is in
    agreed-verdict (completed_of c.args.self) c.args.told.now.items is c.requires.told c.requires.agree
    ∙ ap (agreed_at (stage_closed (completed_of c.args.self))) (none-ended log.shape c.args.self.stage is.closing none)
