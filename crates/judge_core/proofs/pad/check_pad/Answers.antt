use Rattle.std.proofs.Common.{Result, sym, subst, ◌∙◌}
use Rattle.std.proofs.lemmas.Result.{err_from_is_err_and}
use Rattle.wire_core.specs.Answers.{Gives}
use Rattle.judge_core.specs.declared.failed_check.FailedCheck.{FailedCheck}
use Rattle.judge_core.specs.Case.{Case, case_of, said_of, shape_in}
use Rattle.judge_core.specs.Checks.{failed_of}
use Rattle.judge_core.specs.Pad.{accusation_failure, opening_failure, pads_row, view_failure}
use Rattle.judge_core.specs.PadLog.{contents_said}
use Rattle.judge_core.proofs.PadChecks.{accusation-decides, checks-are, opening-fails, split-long, view-fails}
use Rattle.judge_core.proofs.pad.check_pad.Goals as goal

pub returns-in_err-check_view : goal.returns-in_err-check_view
returns-in_err-check_view c =
    let case : Case = case_of c.args.case in
    let long = split-long case c.args.said.now c.in-Some.log.now c.in-Some.pads.now c.requires c.in-Some.ensures.cases.0 in
    let come = checks-are case c.args.said.now c.in-Some.log.now c.in-Some.pads.now c.in-Some.ensures.cases.0 long in
    let p = err_from_is_err_and c.from_residual.result c.from_residual.ensures.1 in
    rw (p.1, p.2) (come ∙ view-fails _ (opening_failure (shape_in case) (contents_said c.in-Some.log.now))
    (accusation_failure case (contents_said c.in-Some.log.now) (pads_row case (said_of c.in-Some.pads.now)) case.detail) _
    c.in_err-check_view.ensures)

pub returns-in_err-revealed : goal.returns-in_err-revealed
returns-in_err-revealed c =
    let case : Case = case_of c.args.case in
    let long = split-long case c.args.said.now c.in-Some.log.now c.in-Some.pads.now c.requires c.in-Some.ensures.cases.0 in
    let come = checks-are case c.args.said.now c.in-Some.log.now c.in-Some.pads.now c.in-Some.ensures.cases.0 long in
    let p = err_from_is_err_and c.from_residual-in_err-revealed.result c.from_residual-in_err-revealed.ensures.1 in
    let fault = opening-fails (shape_in case) (contents_said c.in-Some.log.now)
    (view_failure (shape_in case) (contents_said c.in-Some.log.now) (said_of c.in-Some.pads.now))
    (accusation_failure case (contents_said c.in-Some.log.now) (pads_row case (said_of c.in-Some.pads.now)) case.detail)
    (failed_of c.in_err-revealed.field-0.0) c.in_ok-check_view.ensures c.in_err-revealed.ensures in
    rw (p.1, p.2, come) fault

pub returns : goal.returns
returns c =
    let case : Case = case_of c.args.case in
    let long = split-long case c.args.said.now c.in-Some.log.now c.in-Some.pads.now c.requires c.in-Some.ensures.cases.0 in
    let come = checks-are case c.args.said.now c.in-Some.log.now c.in-Some.pads.now c.in-Some.ensures.cases.0 long in
    let decides = accusation-decides (view_failure (shape_in case) (contents_said c.in-Some.log.now) (said_of c.in-Some.pads.now))
    (opening_failure (shape_in case) (contents_said c.in-Some.log.now))
    (accusation_failure case (contents_said c.in-Some.log.now) (pads_row case (said_of c.in-Some.pads.now)) case.detail)
    c.in_ok-check_view.ensures
    c.in_ok-revealed.ensures.opens in
    subst (λ (r : Result (Unit {0}) FailedCheck). Gives failed_of (λ x. x) c.check_accusation.result r) (sym (come ∙ decides))
    c.check_accusation.ensures
