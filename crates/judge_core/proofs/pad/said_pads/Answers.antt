use Rattle.std.proofs.Common.{sym, ap, ◌∙◌}
use Rattle.phase_message.specs.Offence.{content_read}
use Rattle.phase_message.specs.Shape.{Shape}
use Rattle.judge_core.specs.Case.{case_of}
use Rattle.judge_core.proofs.PadChecks.{pads-body, pads-count}
use Rattle.judge_core.proofs.pad.said_pads.Goals as goal

pub pads_in-requires : goal.pads_in-requires
pads_in-requires c =
    let read = ap (λ (s : Shape). content_read s c.args.pads.content.now) (sym c.shape.ensures) ∙ c.in_ok-content.ensures.value in
    let said = pads-body (case_of c.args.case) c.args.pads c.in_ok-content.content c.requires read
    (rw c.shape.ensures at c.in_ok-content.ensures.grammar) in
    (said.0, said.1)

pub returns-clause-count : goal.returns-clause-count
returns-clause-count c =
    let read = ap (λ (s : Shape). content_read s c.args.pads.content.now) (sym c.shape.ensures) ∙ c.in_ok-content.ensures.value in
    pads-count (case_of c.args.case) c.args.pads c.in_ok-content.content c.pads_in.result c.requires read
    (rw c.shape.ensures at c.in_ok-content.ensures.grammar) c.pads_in.ensures
