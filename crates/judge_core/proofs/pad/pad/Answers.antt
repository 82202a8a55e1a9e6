use Rattle.group_roster.specs.Given.{roster_of}
use Rattle.std.proofs.Common.{List, map, Result, sym, ap, subst, ◌∙◌}
use Rattle.std.proofs.lemmas.Result.{err_from_is_err_and}
use Rattle.wire_core.specs.Answers.{Gives}
use Rattle.group_roster.specs.Roster.{shape_of_roster}
use Rattle.transcript_form.specs.Claim.{claim_posts}
use Rattle.judge_core.specs.declared.failed_check.FailedCheck.{FailedCheck}
use Rattle.judge_core.specs.declared.hearing.Said.{Said as GivenSaid}
use Rattle.judge_core.specs.Case.{case_of, said_of}
use Rattle.judge_core.specs.Checks.{failed_of}
use Rattle.judge_core.specs.Pad.{pad_answer}
use Rattle.judge_core.specs.PadLog.{ArePadPosts}
use Rattle.judge_core.proofs.PadPosts.{heard-pad, pad-posts, unheard-pad}
use Rattle.judge_core.proofs.pad.pad.Goals as goal

pub returns-in_err-said-clause-exact : goal.returns-in_err-said-clause-exact
returns-in_err-said-clause-exact c =
    let p = err_from_is_err_and c.from_residual.result c.from_residual.ensures.1 in
    rw (p.1, p.2) (unheard-pad (case_of c.args.case) c.args.posts _ c.in_err-said.ensures.exact)

pub check_pad-requires : goal.check_pad-requires
check_pad-requires c =
    let count = c.requires.count ∙ ap (claim_posts (shape_of_roster (roster_of c.args.case.roster.now))) c.requires.claim in
    let these = pad-posts (case_of c.args.case) c.args.posts c.in_ok-said.said.items c.requires.claim count c.in_ok-said.ensures.exact
    c.in_ok-said.ensures.short in
    subst (ArePadPosts (case_of c.args.case)) (sym c.as_slice.ensures.value) these

pub returns-clause-exact : goal.returns-clause-exact
returns-clause-exact c =
    let come = heard-pad (case_of c.args.case) c.args.posts (map said_of c.in_ok-said.said.items) c.requires.claim
    c.in_ok-said.ensures.exact in
    let same = ap (λ (said : List GivenSaid). pad_answer (case_of c.args.case) (map said_of said)) c.as_slice.ensures.value in
    subst (λ (r : Result (Unit {0}) FailedCheck). Gives failed_of (λ x. x) c.check_pad.result r) (same ∙ sym come) c.check_pad.ensures
