use Rattle.std.proofs.Common.{◌∙◌, ap, sym, subst, None}
use Rattle.std.specs.Prelude.{◌==◌}
use Rattle.std.proofs.lemmas.Bool.{and_parts}
use Rattle.phase_message.specs.Stages.{kind_of_stage}
use Rattle.transcript_form.specs.declared.claim.Claim.TheVariants.{BadLog}
use Rattle.std.proofs.lemmas.Result.{err_from_is_err_and}
use Rattle.judge_core.specs.Case.{Case, Said, case_of, said_of, shape_in}
use Rattle.judge_core.specs.Checks.{WantsMemory, conviction_of, is_closing_stage, is_of_bodies, is_of_logs}
use Rattle.judge_core.proofs.Hearings.{borne_out, one_post, one-heard, one-unheard, one-wants, asked-as, closing-post, unborne}
use Rattle.judge_core.proofs.bad_log.bad_log.Goals as goal

pub returns-in_err-said-clause-exact : goal.returns-in_err-said-clause-exact
returns-in_err-said-clause-exact c =
    let p = err_from_is_err_and c.from_residual.result c.from_residual.ensures.1 in
    let posts = one_post c.args.posts _ c.in-Some.post.now c.in-Some.ensures.steps c.requires.one in
    rw (p.1, p.2) (ap (conviction_of (case_of c.args.case)) posts
    ∙ one-unheard (case_of c.args.case) _ c.in_err-said.field-0.0 c.in_err-said.ensures.exact)

pub is_justified-requires-clause-closing : goal.is_justified-requires-clause-closing
is_justified-requires-clause-closing c =
    let case : Case = case_of c.args.case in
    let said : Said = said_of c.in_ok-said.said in
    let asked = and_parts (said.header.sender == case.accused) (is_closing_stage (kind_of_stage (shape_in case) said.header.stage))
    (asked-as case BadLog None 1 _ said c.requires.claim c.in_ok-said.ensures.exact) in
    closing-post case None 1 _ said (ap is_of_bodies c.requires.claim) c.in_ok-said.ensures.exact asked.1

pub returns-in_err-is_justified-clause-memory : goal.returns-in_err-is_justified-clause-memory
returns-in_err-is_justified-clause-memory c = λ e.
    let posts = one_post c.args.posts _ c.in-Some.post.now c.in-Some.ensures.steps c.requires.one in
    subst (WantsMemory (case_of c.args.case)) (sym posts) (one-wants (case_of c.args.case) _ (said_of c.in_ok-said.said)
    (ap is_of_logs c.requires.claim) c.in_ok-said.ensures.exact)

pub returns-then-branch-clause-exact : goal.returns-then-branch-clause-exact
returns-then-branch-clause-exact c =
    let posts = one_post c.args.posts _ c.in-Some.post.now c.in-Some.ensures.steps c.requires.one in
    ap (conviction_of (case_of c.args.case)) posts
    ∙ one-heard (case_of c.args.case) _ (said_of c.in_ok-said.said) c.in_ok-said.ensures.exact
    ∙ borne_out (case_of c.args.case) (said_of c.in_ok-said.said) c.requires.claim (sym c.in_ok-is_justified.ensures ∙ c.if-branch.true)

pub returns-clause-exact : goal.returns-clause-exact
returns-clause-exact c =
    let posts = one_post c.args.posts _ c.in-Some.post.now c.in-Some.ensures.steps c.requires.one in
    ap (conviction_of (case_of c.args.case)) posts
    ∙ one-heard (case_of c.args.case) _ (said_of c.in_ok-said.said) c.in_ok-said.ensures.exact
    ∙ unborne (case_of c.args.case) (said_of c.in_ok-said.said) c.requires.claim (sym c.in_ok-is_justified.ensures ∙ c.if-branch.false)
