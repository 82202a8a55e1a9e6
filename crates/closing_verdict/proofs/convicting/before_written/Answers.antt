use Rattle.std.proofs.Common.{◌≡◌, ℕ, List, length, get_or, ap, sym, ◌∙◌, subst, arith}
use Rattle.phase_message.specs.declared.post.Post.{Post}
use Rattle.stage_log.specs.Table.{IsKept}
use Rattle.honest_say.proofs.PastLemmas.{past-kept}
use Rattle.closing_verdict.proofs.convicting.before_written.Goals as goal

pub write-requires : goal.write-requires
write-requires c =
    let at : ℕ = c.loop-post.post-index in
    let post : Post = c.post-item.result in
    let same : c.deref-post-items.result.now ≡ c.in_ok-kept.kept.items = c.deref-post-items.ensures.value in
    let read : post ≡ get_or c.in_ok-kept.kept.items at post = c.post-item.is ∙ ap (λ (t : List Post). get_or t at post) same in
    let within = c.loop-post-test.true in
    let kept = past-kept c.args.log.now c.args.stage c.in_ok-kept.kept.items c.requires.form c.in_ok-kept.ensures at post
    (omega (arith, within, ap (λ (t : List Post). length t) same)) in
    let here : IsKept post.content = subst (λ (p : Post). IsKept p.content) (sym read) kept in
    omega (arith, here.most)
