use Rattle.std.proofs.Common.{◌≡◌, ◌+◌, ℕ, List, [], ◌∷◌, length, Option, Some, ap, sym, ◌∙◌, subst, arith}
use Rattle.std.specs.Prelude.{is_none}
use Rattle.wire_core.specs.declared.tag.Tag.TheVariants.{View}
use Rattle.wire_core.specs.Answers.{first_below}
use Rattle.wire_core.specs.Hash.{hash_of}
use Rattle.phase_message.specs.declared.post.Post.{Post}
use Rattle.stage_log.specs.Table.{posts_in}
use Rattle.stage_log.specs.Log.{contents_in, contents_of, unlike_at, view_of}
use Rattle.stage_log.specs.Running.{Carries}
use Rattle.stage_log.proofs.Sights.{right-next}
use Rattle.stage_log.proofs.Views.{next_view}
use Rattle.stage_log.proofs.seen.Seen.pass.Goals as goal

pub returns : goal.returns
returns c = λ posts e seen.
    let view : List ℕ = view_of c.args.log.now.shape (contents_of posts) c.args.stage in
    let row = posts_in c.args.log.now c.args.stage in
    let here = c.is_row_right.ensures
    ∙ ap (λ (r : List (Option Post)). is_none (first_below (length r) (unlike_at c.view.result r))) c.row-row.ensures.posts
    ∙ ap (λ (v : List ℕ). is_none (first_below (length row) (unlike_at v row))) (c.view.ensures view [] seen.view) in
    let next = ap (λ (r : List (Option Post)). hash_of View (view ∷ contents_in r)) c.row-row.ensures.posts
    ∙ next_view c.args.log.now c.args.stage (c.args.stage + 1) posts (omega arith) e in
    record {
      view = subst (λ (v : List ℕ). Carries c.carry.new.running v []) next (c.carry.ensures view seen.view);
      right = right-next c.args.log.now c.args.stage posts c.args.self.now.right c.is_row_right.result c.row-row.ensures.form e seen.right
          here;
    }
