use Rattle.std.proofs.Common.{◌≡◌, List, ℕ, [], ◌∷◌, Some, ap, sym, ◌∙◌, subst, arith}
use Rattle.std.specs.Prelude.{Option}
use Rattle.std.specs.Option.{option_map}
use Rattle.wire_core.specs.declared.tag.Tag.TheVariants.{View}
use Rattle.wire_core.specs.Hash.{hash_of}
use Rattle.phase_message.specs.declared.post.Post.{Post}
use Rattle.stage_log.specs.Log.{before, contents_of, contents_in, view_of}
use Rattle.stage_log.specs.Running.{Carries}
use Rattle.stage_log.proofs.Pasts.{some_of}
use Rattle.stage_log.proofs.Views.{next_view}
use Rattle.stage_log.proofs.log.StageLog.view.Goals as goal

pub loop-earlier-preserved : goal.loop-earlier-preserved
loop-earlier-preserved c = λ posts e.
    let view : List ℕ = view_of c.args.self.now.shape (contents_of posts) c.loop-earlier.earlier in
    let next = ap (λ (row : List (Option Post)). hash_of View (view ∷ contents_in row)) c.row.ensures.posts
    ∙ next_view c.args.self.now c.loop-earlier.earlier c.args.stage posts c.loop-earlier-test.true e in
    subst (λ (v : List ℕ). Carries c.carry.new.running v []) next (c.carry.ensures view (c.loop-earlier.invariant posts e))

pub returns : goal.returns
returns c =
    let past = some_of (before c.args.self.now c.args.stage) c.requires in
    let at : c.loop-earlier.earlier ≡ c.args.stage = omega arith in
    let view : ℕ → List ℕ = λ stage. view_of c.args.self.now.shape (contents_of past.0) stage in
    ap (λ (o : Option (List Post)). option_map (λ posts. view_of c.args.self.now.shape (contents_of posts) c.args.stage) o) past.1
    ∙ ap (λ (v : List ℕ). Some v) (sym (c.view.ensures (view c.loop-earlier.earlier) [] (c.loop-earlier.invariant past.0 past.1)
    ∙ ap view at))
