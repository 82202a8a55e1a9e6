use Rattle.std.proofs.Common.{◌≡◌, ℕ, ◌+◌, List, [], ◌∷◌, ◌++◌, ap, sym, ◌∙◌, subst, length, ◌<◌, ◌^◌, All, take, map, true}
use Rattle.std.specs.Prelude.{IsSome}
use Rattle.std.proofs.lemmas.List.Elements.{All-push}
use Rattle.phase_message.specs.Post.{post_spelling}
use Rattle.phase_message.specs.Shape.{Shape}
use Rattle.phase_message.specs.Slots.{slots_before}
use Rattle.phase_message.specs.Stages.{is_slot}
use Rattle.stage_log.specs.Log.{before}
use Rattle.honest_say.specs.Pasts.{posts_before}
use Rattle.honest_say.proofs.StageLemmas.{pad-slot}
use Rattle.round_spec.specs.Slots.{pad_stage}
use Rattle.round_spec.specs.Verdict.{sent_in}
use Rattle.closing_verdict.specs.Judgement.{Completed, completed_of, stage_closed}
use Rattle.closing_verdict.proofs.PadPosts.{front-is, front-long, front-short, front-some, pads-count}
use Rattle.closing_verdict.proofs.judging.Closing.pads_sent.Goals as goal

pub before_written-requires-clause-there : goal.before_written-requires-clause-there
before_written-requires-clause-there c =
    let of : Completed = completed_of c.args.self in
    let stage : c.shape-stage.result.members + 4 ≡ pad_stage of.log.shape = ap (λ (s : Shape). s.members + 4)
    (c.shape-stage.ensures ∙ sym c.requires.closing.complete.shape) in
    subst (λ (k : ℕ). IsSome (before of.log k)) (sym stage) (front-some of c.requires.closing.complete (pad_stage of.log.shape)
    c.requires.later)

pub post_sent-requires-clause-slot : goal.post_sent-requires-clause-slot
post_sent-requires-clause-slot c =
    let of : Completed = completed_of c.args.self in
    let stage : c.shape-stage.result.members + 4 ≡ pad_stage of.log.shape = ap (λ (s : Shape). s.members + 4)
    (c.shape-stage.ensures ∙ sym c.requires.closing.complete.shape) in
    subst (λ (k : ℕ). is_slot of.log.shape k c.args.member ≡ true) (sym stage)
    (pad-slot of.log.shape c.args.member c.requires.least c.requires.most)

pub returns-clause-value : goal.returns-clause-value
returns-clause-value c =
    let of : Completed = completed_of c.args.self in
    let said : ℕ → List ℕ = λ k. sent_in (stage_closed of) k c.args.member in
    let stage : c.shape-stage.result.members + 4 ≡ pad_stage of.log.shape = ap (λ (s : Shape). s.members + 4)
    (c.shape-stage.ensures ∙ sym c.requires.closing.complete.shape) in
    c.in_ok-push.ensures.items
    ∙ ap (λ (front : List (List ℕ)). front ++ c.in_ok-pads.pads ∷ [])
    (c.in_ok-posts.ensures ∙ ap (λ (k : ℕ). map post_spelling (posts_before of.log k)) stage
    ∙ ap (map post_spelling) (front-is of c.requires.closing.complete (pad_stage of.log.shape) c.requires.later))
    ∙ ap (λ (last : List ℕ). map post_spelling (take (slots_before of.log.shape (pad_stage of.log.shape))
    (posts_before of.log (of.stage + 1))) ++ last ∷ []) (c.in_ok-pads.ensures.value ∙ ap said stage)

pub returns-clause-short : goal.returns-clause-short
returns-clause-short c =
    let of : Completed = completed_of c.args.self in
    let stage : c.shape-stage.result.members + 4 ≡ pad_stage of.log.shape = ap (λ (s : Shape). s.members + 4)
    (c.shape-stage.ensures ∙ sym c.requires.closing.complete.shape) in
    let front : c.in_ok-posts.posts.items ≡ map post_spelling (posts_before of.log (pad_stage of.log.shape)) = c.in_ok-posts.ensures
    ∙ ap (λ (k : ℕ). map post_spelling (posts_before of.log k)) stage in
    subst (λ (list : List (List ℕ)). All (λ entry. length entry < 2 ^ 32) list) (sym c.in_ok-push.ensures.items)
    (All-push (λ entry. length entry < 2 ^ 32) c.in_ok-posts.posts.items c.in_ok-pads.pads
    (subst (λ (list : List (List ℕ)). All (λ entry. length entry < 2 ^ 32) list) (sym front)
    (front-short of c.requires.closing.complete (pad_stage of.log.shape) c.requires.later))
    c.in_ok-pads.ensures.short)

pub returns-clause-count : goal.returns-clause-count
returns-clause-count c =
    let of : Completed = completed_of c.args.self in
    let stage : c.shape-stage.result.members + 4 ≡ pad_stage of.log.shape = ap (λ (s : Shape). s.members + 4)
    (c.shape-stage.ensures ∙ sym c.requires.closing.complete.shape) in
    let front : c.in_ok-posts.posts.items ≡ map post_spelling (posts_before of.log (pad_stage of.log.shape)) = c.in_ok-posts.ensures
    ∙ ap (λ (k : ℕ). map post_spelling (posts_before of.log k)) stage in
    pads-count of.log.shape (posts_before of.log (pad_stage of.log.shape)) c.in_ok-posts.posts.items c.push.new.self.items c.in_ok-pads.pads
    (front-long of c.requires.closing.complete (pad_stage of.log.shape) c.requires.later) front c.in_ok-push.ensures.items
