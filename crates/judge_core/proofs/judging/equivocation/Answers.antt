use Rattle.std.proofs.Common.{◌∙◌, ap, sym, None}
use Rattle.std.proofs.lemmas.Result.{err_from_is_err_and}
use Rattle.judge_core.specs.Checks.{conviction_of, is_of_bodies}
use Rattle.judge_core.specs.Case.{case_of, said_of}
use Rattle.judge_core.proofs.Hearings.{two_posts, two-first, two-second, two-both, equal_contents, other_contents, taken-plain}
use Rattle.judge_core.proofs.judging.equivocation.Goals as goal

pub returns-in_err-first : goal.returns-in_err-first
returns-in_err-first c =
    let p = err_from_is_err_and c.from_residual.result c.from_residual.ensures.1 in
    let posts = two_posts c.args.posts _ _ c.in-Some-Some.first_post.now c.in-Some-Some.second_post.now c.in-Some-Some.ensures.steps
    c.in-Some-Some.ensures'.steps c.requires.two in
    rw (p.1, p.2) (ap (conviction_of (case_of c.args.case)) posts
    ∙ two-first (case_of c.args.case) _ _ c.in_err-first.field-0.0
    (taken-plain (case_of c.args.case) None 1 _ (ap is_of_bodies c.requires.claim) ∙ c.in_err-first.ensures.exact))

pub returns-in_err-second : goal.returns-in_err-second
returns-in_err-second c =
    let p = err_from_is_err_and c.from_residual-in_err-second.result c.from_residual-in_err-second.ensures.1 in
    let posts = two_posts c.args.posts _ _ c.in-Some-Some.first_post.now c.in-Some-Some.second_post.now c.in-Some-Some.ensures.steps
    c.in-Some-Some.ensures'.steps c.requires.two in
    rw (p.1, p.2) (ap (conviction_of (case_of c.args.case)) posts
    ∙ two-second (case_of c.args.case) _ _ (said_of c.in_ok-first.first) c.in_err-second.field-0.0
    (taken-plain (case_of c.args.case) None 1 _ (ap is_of_bodies c.requires.claim) ∙ c.in_ok-first.ensures.exact)
    (taken-plain (case_of c.args.case) _ 2 _ (ap is_of_bodies c.requires.claim) ∙ c.in_err-second.ensures.exact))

pub returns-then-eq : goal.returns-then-eq
returns-then-eq c =
    let posts = two_posts c.args.posts _ _ c.in-Some-Some.first_post.now c.in-Some-Some.second_post.now c.in-Some-Some.ensures.steps
    c.in-Some-Some.ensures'.steps c.requires.two in
    ap (conviction_of (case_of c.args.case)) posts
    ∙ two-both (case_of c.args.case) _ _ (said_of c.in_ok-first.first) (said_of c.in_ok-second.second)
    (taken-plain (case_of c.args.case) None 1 _ (ap is_of_bodies c.requires.claim) ∙ c.in_ok-first.ensures.exact)
    (taken-plain (case_of c.args.case) _ 2 _ (ap is_of_bodies c.requires.claim) ∙ c.in_ok-second.ensures.exact)
    ∙ equal_contents (case_of c.args.case) (said_of c.in_ok-first.first) (said_of c.in_ok-second.second) c.requires.claim
    (sym c.if-eq.ensures)

pub returns : goal.returns
returns c =
    let posts = two_posts c.args.posts _ _ c.in-Some-Some.first_post.now c.in-Some-Some.second_post.now c.in-Some-Some.ensures.steps
    c.in-Some-Some.ensures'.steps c.requires.two in
    ap (conviction_of (case_of c.args.case)) posts
    ∙ two-both (case_of c.args.case) _ _ (said_of c.in_ok-first.first) (said_of c.in_ok-second.second)
    (taken-plain (case_of c.args.case) None 1 _ (ap is_of_bodies c.requires.claim) ∙ c.in_ok-first.ensures.exact)
    (taken-plain (case_of c.args.case) _ 2 _ (ap is_of_bodies c.requires.claim) ∙ c.in_ok-second.ensures.exact)
    ∙ other_contents (case_of c.args.case) (said_of c.in_ok-first.first) (said_of c.in_ok-second.second) c.requires.claim
    (sym c.if-eq.ensures)
