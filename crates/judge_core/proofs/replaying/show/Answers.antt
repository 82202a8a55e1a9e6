use Rattle.std.proofs.Common.{sym, ap, ◌∙◌}
use Rattle.phase_message.specs.Offence.{content_read}
use Rattle.phase_message.specs.Shape.{Shape}
use Rattle.judge_core.specs.Case.{case_of, said_of}
use Rattle.judge_core.proofs.Showings.{closing-content, shown-is}
use Rattle.judge_core.proofs.replaying.show.Goals as goal

pub justifying_log-requires-clause-closing : goal.justifying_log-requires-clause-closing
justifying_log-requires-clause-closing c =
    let read = ap (λ (s : Shape). content_read s c.args.said.content.now) (sym c.shape.ensures) ∙ c.in_ok-content.ensures.value in
    closing-content (case_of c.args.case) (said_of c.args.said) c.in_ok-content.content c.requires.objection.post read

pub returns : goal.returns
returns c =
    let read = ap (λ (s : Shape). content_read s c.args.said.content.now) (sym c.shape.ensures) ∙ c.in_ok-content.ensures.value in
    shown-is (case_of c.args.case) c.args.said.header.stage (said_of c.args.said) c.in_ok-content.content c.in-Some.log c.shown_by.result
    c.requires.objection read
    (rw c.shape.ensures at c.in_ok-content.ensures.grammar) (rw c.in-Some.is at c.in_ok-log.ensures.keeps)
    (rw c.in-Some.is at c.in_ok-log.ensures.justified) c.shown_by.ensures
