use Rattle.std.proofs.Common.{◌∷◌, [], ◌∙◌, ap, sym, subst}
use Rattle.std.proofs.lemmas.Result.{err_from_is_err_and}
use Rattle.phase_message.specs.Shape.{Shape}
use Rattle.judge_core.specs.Checks.{conviction_of, is_seed_right}
use Rattle.judge_core.specs.Case.{case_of, said_of}
use Rattle.judge_core.specs.WrongSeed.{IsKeysContent, RevealsSeed}
use Rattle.judge_core.proofs.Hearings.{two_posts, two-both, two-first, two-second, right_seed, other_seed}
use Rattle.judge_core.proofs.SeedPlaces.{keys-content, reveals-seed}
use Rattle.judge_core.proofs.wrong_seed.wrong_seed.Goals as goal

pub returns-in_err-first : goal.returns-in_err-first
returns-in_err-first c =
    let p = err_from_is_err_and c.from_residual.result c.from_residual.ensures.1 in
    let posts = two_posts c.args.posts _ _ c.in-Some-Some.first_post.now c.in-Some-Some.second_post.now c.in-Some-Some.ensures.steps
    c.in-Some-Some.ensures'.steps c.requires.two in
    rw (p.1, p.2) (ap (conviction_of (case_of c.args.case)) posts
    ∙ two-first (case_of c.args.case) _ _ c.in_err-first.field-0.0 c.in_err-first.ensures.exact)

pub returns-in_err-second : goal.returns-in_err-second
returns-in_err-second c =
    let p = err_from_is_err_and c.from_residual-in_err-second.result c.from_residual-in_err-second.ensures.1 in
    let posts = two_posts c.args.posts _ _ c.in-Some-Some.first_post.now c.in-Some-Some.second_post.now c.in-Some-Some.ensures.steps
    c.in-Some-Some.ensures'.steps c.requires.two in
    rw (p.1, p.2) (ap (conviction_of (case_of c.args.case)) posts
    ∙ two-second (case_of c.args.case) _ _ (said_of c.in_ok-first.first) c.in_err-second.field-0.0 c.in_ok-first.ensures.exact
    c.in_err-second.ensures.exact)

pub is_seed_right-requires-clause-keys : goal.is_seed_right-requires-clause-keys
is_seed_right-requires-clause-keys c =
    subst (λ (shape : Shape). IsKeysContent shape c.in_ok-first.first.content.now) (sym c.shape.ensures)
    (keys-content (case_of c.args.case) _ (said_of c.in_ok-first.first) c.requires.claim c.in_ok-first.ensures.exact)

pub is_seed_right-requires-clause-last : goal.is_seed_right-requires-clause-last
is_seed_right-requires-clause-last c =
    subst (λ (shape : Shape). RevealsSeed shape c.in_ok-second.second.content.now) (sym c.shape.ensures)
    (reveals-seed (case_of c.args.case) c.in_ok-first.first.header _ (said_of c.in_ok-second.second) c.requires.claim
    c.in_ok-second.ensures.exact)

pub returns-then-is_seed_right : goal.returns-then-is_seed_right
returns-then-is_seed_right c =
    let posts = two_posts c.args.posts _ _ c.in-Some-Some.first_post.now c.in-Some-Some.second_post.now c.in-Some-Some.ensures.steps
    c.in-Some-Some.ensures'.steps c.requires.two in
    let is = ap (λ (shape : Shape). is_seed_right shape (said_of c.in_ok-first.first ∷ said_of c.in_ok-second.second ∷ []))
    (sym c.shape.ensures) in
    ap (conviction_of (case_of c.args.case)) posts
    ∙ two-both (case_of c.args.case) _ _ (said_of c.in_ok-first.first) (said_of c.in_ok-second.second) c.in_ok-first.ensures.exact
    c.in_ok-second.ensures.exact
    ∙ right_seed (case_of c.args.case) (said_of c.in_ok-first.first) (said_of c.in_ok-second.second) c.requires.claim
    (is ∙ sym c.is_seed_right.ensures ∙ c.if-is_seed_right.true)

pub returns : goal.returns
returns c =
    let posts = two_posts c.args.posts _ _ c.in-Some-Some.first_post.now c.in-Some-Some.second_post.now c.in-Some-Some.ensures.steps
    c.in-Some-Some.ensures'.steps c.requires.two in
    let is = ap (λ (shape : Shape). is_seed_right shape (said_of c.in_ok-first.first ∷ said_of c.in_ok-second.second ∷ []))
    (sym c.shape.ensures) in
    ap (conviction_of (case_of c.args.case)) posts
    ∙ two-both (case_of c.args.case) _ _ (said_of c.in_ok-first.first) (said_of c.in_ok-second.second) c.in_ok-first.ensures.exact
    c.in_ok-second.ensures.exact
    ∙ other_seed (case_of c.args.case) (said_of c.in_ok-first.first) (said_of c.in_ok-second.second) c.requires.claim
    (is ∙ sym c.is_seed_right.ensures ∙ c.if-is_seed_right.false)
