use Rattle.std.proofs.Common.{◌∙◌, ap, sym, None}
use Rattle.std.proofs.lemmas.Result.{err_from_is_err_and}
use Rattle.std.specs.Prelude.{is_ok}
use Rattle.phase_message.specs.Offence.{content_read}
use Rattle.phase_message.specs.Shape.{Shape}
use Rattle.judge_core.specs.Checks.{conviction_of, is_of_bodies}
use Rattle.judge_core.specs.Case.{case_of, said_of}
use Rattle.judge_core.proofs.Hearings.{one_post, one-unheard, one-heard, formed, unformed, taken-plain}
use Rattle.judge_core.proofs.judging.malformed.Goals as goal

pub returns-in_err-said : goal.returns-in_err-said
returns-in_err-said c =
    let p = err_from_is_err_and c.from_residual.result c.from_residual.ensures.1 in
    let posts = one_post c.args.posts _ c.in-Some.post.now c.in-Some.ensures.steps c.requires.one in
    rw (p.1, p.2) (ap (conviction_of (case_of c.args.case)) posts
    ∙ one-unheard (case_of c.args.case) _ c.in_err-said.field-0.0
    (taken-plain (case_of c.args.case) None 1 _ (ap is_of_bodies c.requires.claim) ∙ c.in_err-said.ensures.exact))

pub returns-then-is_well_formed : goal.returns-then-is_well_formed
returns-then-is_well_formed c =
    let posts = one_post c.args.posts _ c.in-Some.post.now c.in-Some.ensures.steps c.requires.one in
    ap (conviction_of (case_of c.args.case)) posts
    ∙ one-heard (case_of c.args.case) _ (said_of c.in_ok-said.said)
    (taken-plain (case_of c.args.case) None 1 _ (ap is_of_bodies c.requires.claim) ∙ c.in_ok-said.ensures.exact)
    ∙ formed (case_of c.args.case) (said_of c.in_ok-said.said) c.requires.claim
    (ap (λ (shape : Shape). is_ok (content_read shape c.in_ok-said.said.content.now)) (sym c.shape.ensures)
    ∙ sym c.is_well_formed.ensures ∙ c.if-is_well_formed.true)

pub returns : goal.returns
returns c =
    let posts = one_post c.args.posts _ c.in-Some.post.now c.in-Some.ensures.steps c.requires.one in
    ap (conviction_of (case_of c.args.case)) posts
    ∙ one-heard (case_of c.args.case) _ (said_of c.in_ok-said.said)
    (taken-plain (case_of c.args.case) None 1 _ (ap is_of_bodies c.requires.claim) ∙ c.in_ok-said.ensures.exact)
    ∙ unformed (case_of c.args.case) (said_of c.in_ok-said.said) c.requires.claim
    (ap (λ (shape : Shape). is_ok (content_read shape c.in_ok-said.said.content.now)) (sym c.shape.ensures)
    ∙ sym c.is_well_formed.ensures ∙ c.if-is_well_formed.false)
