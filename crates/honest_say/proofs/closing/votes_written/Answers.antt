use Rattle.std.proofs.Common.{◌≡◌, ℕ, ◌+◌, ◌-◌, List, [], ◌∷◌, ◌++◌, take, Some, ap, sym, ◌∙◌, arith}
use Rattle.std.specs.Option.{option_map}
use Rattle.std.proofs.lemmas.List.{take_all}
use Rattle.phase_message.specs.declared.post.Post.{Post}
use Rattle.phase_message.specs.declared.stage.Slot.{Slot}
use Rattle.phase_message.specs.Post.{post_spelling}
use Rattle.phase_message.specs.Shape.{Shape}
use Rattle.stage_log.proofs.Fronts.{some_is}
use Rattle.stage_log.specs.Table.{kept_in}
use Rattle.go_nogo.specs.Rows.{posts_at, written}
use Rattle.honest_say.specs.Pasts.{posts_before}
use Rattle.honest_say.proofs.ClosingLemmas.{row-length, row-slot, vote-kept, vote-row, written-next}
use Rattle.honest_say.proofs.PastLemmas.{complete-posts, kept-post, past-length}
use Rattle.honest_say.proofs.closing.votes_written.Goals as goal

pub overflow_sub-slot : goal.overflow_sub-slot
overflow_sub-slot c = (vote-row c.args.log.now.shape c.args.stage c.requires.closing).0

pub post_written-requires : goal.post_written-requires
post_written-requires c =
    let log = c.args.log.now in
    let members = ap (λ (shape : Shape). shape.members) c.shape-shape.ensures.shape in
    let row = vote-row log.shape c.args.stage c.requires.closing in
    let slot : Slot = record { stage = c.args.stage - 1; sender = c.loop-place.place + 1 } in
    let found = kept-post log c.args.stage slot c.shape-shape.ensures.form c.requires.complete
    (row-slot log.shape (c.args.stage - 1) (c.loop-place.place + 1) row.1 (omega arith) (omega (arith, members))) (omega (arith, row.0)) in
    some_is (kept_in log slot) found.0 found.1

pub loop-place-preserved : goal.loop-place-preserved
loop-place-preserved c =
    let log = c.args.log.now in
    let place : ℕ = c.loop-place.place in
    let members = ap (λ (shape : Shape). shape.members) c.shape-shape.ensures.shape in
    let row = vote-row log.shape c.args.stage c.requires.closing in
    let slot : Slot = record { stage = c.args.stage - 1; sender = place + 1 } in
    let posts : List Post = posts_at log.shape (posts_before log c.args.stage) (c.args.stage - 1) in
    let found = kept-post log c.args.stage slot c.shape-shape.ensures.form c.requires.complete
    (row-slot log.shape (c.args.stage - 1) (place + 1) row.1 (omega arith) (omega (arith, members))) (omega (arith, row.0)) in
    let there = sym (vote-kept log c.args.stage place (posts_before log c.args.stage) row.0
    (complete-posts log c.args.stage c.requires.complete) row.1 (omega (arith, members))) ∙ found.1 in
    let spelled : Some (post_spelling found.0) ≡ Some c.in_ok-post.post = ap (option_map post_spelling) (sym found.1)
    ∙ c.in_ok-post.ensures in
    let bytes : post_spelling found.0 ≡ c.in_ok-post.post = cc in
    c.in_ok-push.ensures.items
    ∙ ap (λ (front : List (List ℕ)). front ++ c.in_ok-post.post ∷ []) c.loop-place.invariant
    ∙ ap (λ (last : List ℕ). written (take place posts) ++ last ∷ []) (sym bytes)
    ∙ sym (written-next posts place found.0 there)

pub returns : goal.returns
returns c =
    let log = c.args.log.now in
    let members = ap (λ (shape : Shape). shape.members) c.shape-shape.ensures.shape in
    let row = vote-row log.shape c.args.stage c.requires.closing in
    let posts : List Post = posts_at log.shape (posts_before log c.args.stage) (c.args.stage - 1) in
    let long = row-length log c.args.stage (posts_before log c.args.stage)
    (past-length log c.args.stage (posts_before log c.args.stage) c.shape-shape.ensures.form
    (complete-posts log c.args.stage c.requires.complete)) row.0 row.1 in
    c.of.ensures ∙ c.loop-place.invariant ∙ ap written (take_all c.loop-place.place posts (omega (arith, members, long)))
