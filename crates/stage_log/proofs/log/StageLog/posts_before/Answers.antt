use Rattle.std.proofs.Common.{◌≡◌, ℕ, List, Option, Some, take, ap, sym, ◌∙◌, arith}
use Rattle.std.proofs.lemmas.List.{length-take-le}
use Rattle.phase_message.specs.declared.post.Post.{Post}
use Rattle.phase_message.specs.Slots.{slots_before}
use Rattle.stage_log.specs.Table.{Log}
use Rattle.stage_log.specs.Log.{before, posts_kept}
use Rattle.stage_log.proofs.Entries.{before-within}
use Rattle.stage_log.proofs.Pasts.{before-kept, kept-ok}
use Rattle.stage_log.proofs.log.StageLog.posts_before.Goals as goal

pub slice_bounds-copies-end : goal.slice_bounds-copies-end
slice_bounds-copies-end c =
    let within = before-within _ c.args.stage c.self.invariant in
    sym (length-take-le c.slots_before-end.result c.deref.result.now (omega arith))

pub returns : goal.returns
returns c =
    let front : take (slots_before c.args.self.now.shape c.args.stage) c.args.self.now.posts ≡ take c.slots_before-end.result
    c.deref.result.now =
    ap (λ (log : Log). take (slots_before log.shape c.args.stage) log.posts) (sym c.self.view_is)
    ∙ ap (λ (k : ℕ). take k c.self.inside.posts.items) (sym c.slots_before-end.ensures.value)
    ∙ ap (λ (posts : List (Option Post)). take c.slots_before-end.result posts) (sym c.deref.ensures.value) in
    kept-ok (λ posts. posts.items) (before c.args.self.now c.args.stage) (posts_kept (take c.slots_before-end.result c.deref.result.now))
    c.copies.result
    (before-kept c.args.self.now c.args.stage c.requires ∙ ap (λ (places : List (Option Post)). Some (posts_kept places)) front)
    c.copies.ensures
