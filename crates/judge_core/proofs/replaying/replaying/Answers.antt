use Rattle.group_roster.specs.Given.{roster_of}
use Rattle.std.proofs.Common.{List, length, map, Result, sym, ap, subst, ◌∙◌, arith}
use Rattle.std.proofs.lemmas.Result.{err_from_is_err_and}
use Rattle.wire_core.specs.Answers.{Gives}
use Rattle.group_roster.specs.Roster.{shape_of_roster}
use Rattle.transcript_form.specs.Claim.{claim_posts}
use Rattle.judge_core.specs.declared.failed_check.FailedCheck.{FailedCheck}
use Rattle.judge_core.specs.declared.hearing.Said.{Said as GivenSaid}
use Rattle.judge_core.specs.Case.{case_of, said_of}
use Rattle.judge_core.specs.Checks.{failed_of, is_of_logs}
use Rattle.judge_core.specs.Replay.{replay_answer}
use Rattle.judge_core.specs.Showing.{AreOfOneStage}
use Rattle.judge_core.proofs.Hearings.{ok_is}
use Rattle.judge_core.proofs.Objections.{heard, objections, unheard}
use Rattle.judge_core.proofs.replaying.replaying.Goals as goal

pub take_all-requires : goal.take_all-requires
take_all-requires c =
    let count = c.requires.count ∙ ap (claim_posts (shape_of_roster (roster_of c.args.case.roster.now))) c.requires.claim in
    omega (arith, count, c.args.case.roster.now.form.most)

pub returns-in_err-said-clause-exact : goal.returns-in_err-said-clause-exact
returns-in_err-said-clause-exact c =
    let p = err_from_is_err_and c.from_residual.result c.from_residual.ensures.1 in
    rw (p.1, p.2) (unheard (case_of c.args.case) c.args.posts _ c.in_err-said.ensures.exact)

pub check_all-requires-clause-objections : goal.check_all-requires-clause-objections
check_all-requires-clause-objections c =
    let these = objections (case_of c.args.case) c.args.posts c.in_ok-said.said.items c.requires.claim c.in_ok-said.ensures.exact
    c.in_ok-said.ensures.short in
    subst (AreOfOneStage (case_of c.args.case)) (sym c.as_slice.ensures.value) these.1

pub check_all-requires-clause-count : goal.check_all-requires-clause-count
check_all-requires-clause-count c =
    let these = objections (case_of c.args.case) c.args.posts c.in_ok-said.said.items c.requires.claim c.in_ok-said.ensures.exact
    c.in_ok-said.ensures.short in
    ap (λ (said : List GivenSaid). length said) c.as_slice.ensures.value ∙ these.0
    ∙ c.requires.count ∙ ap (claim_posts (shape_of_roster (roster_of c.args.case.roster.now))) c.requires.claim

pub returns-clause-exact : goal.returns-clause-exact
returns-clause-exact c =
    let come = heard (case_of c.args.case) c.args.posts (map said_of c.in_ok-said.said.items) c.requires.claim c.in_ok-said.ensures.exact in
    let same = ap (λ (said : List GivenSaid). replay_answer (case_of c.args.case) (map said_of said)) c.as_slice.ensures.value in
    subst (λ (r : Result (Unit {0}) FailedCheck). Gives failed_of (λ x. x) c.check_all.result r) (same ∙ sym come) c.check_all.ensures

pub returns-clause-memory : goal.returns-clause-memory
returns-clause-memory c = λ e. (ap is_of_logs c.requires.claim, ok_is _ _ c.in_ok-said.ensures.exact)
