use Rattle.std.proofs.Common.{List, [], ◌∷◌, ◌++◌, sym, ◌∙◌, ap}
use Rattle.phase_message.specs.declared.post.Post.{Post}
use Rattle.stage_log.specs.Log.{posts_kept}
use Rattle.stage_log.proofs.Steps.{posts_kept-next}
use Rattle.stage_log.proofs.log.copies.Goals as goal

pub loop-kept-preserved : goal.loop-kept-preserved
loop-kept-preserved c =
    c.in_ok-push_copy.ensures
    ∙ ap (λ (posts : List Post). posts ++ posts_kept (c.kept-item.result ∷ [])) c.loop-kept.invariant
    ∙ sym (posts_kept-next c.args.places.now c.loop-kept.kept-index c.kept-item.result c.loop-kept-test.true c.kept-item.is)
