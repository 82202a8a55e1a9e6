use Rattle.std.proofs.Common.{◌≡◌, ◌∙◌, List, ℕ, Ok, Result, sym, ap, subst}
use Rattle.wire_core.specs.Reading.{Reading, repeated}
use Rattle.transcript_form.specs.declared.refusal.FailedForm.{FailedForm}
use Rattle.transcript_form.specs.Form.{listed_at}
use Rattle.transcript_form.specs.Listed.{PostsLie, posts_of}
use Rattle.transcript_form.proofs.Listings.{repeated-lies}
use Rattle.transcript_form.proofs.listed.read_posts.Goals as goal

pub invariant_of-result : goal.invariant_of-result
invariant_of-result c =
    let posts = c.in_ok-pass_posts.ensures in
    let lie = repeated-lies c.args.size c.posts-count.result c.args.cursor.now (posts.0, c.pass_posts.new.cursor) posts.1 in
    subst (λ (x : List ℕ). PostsLie c.posts-count.result x) (sym c.rest-rest.ensures) lie.0

pub returns : goal.returns
returns c =
    let posts = c.in_ok-pass_posts.ensures in
    let lie = repeated-lies c.args.size c.posts-count.result c.args.cursor.now (posts.0, c.pass_posts.new.cursor) posts.1 in
    let told : List (List ℕ) → Result (List (List ℕ) × Reading) FailedForm = λ x. Ok (x, c.pass_posts.new.cursor) in
    ap (λ (n : ℕ). repeated n (listed_at c.args.size) c.args.cursor.now) (sym c.posts-count.ensures)
    ∙ posts.1 ∙ ap told (sym lie.1 ∙ ap (posts_of c.posts-count.result) (sym c.rest-rest.ensures))
