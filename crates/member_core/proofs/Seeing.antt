-- What was seen of the stages before a stage, and what of the stage too.
use Rattle.std.proofs.Common.{◌≡◌, ℕ, ◌+◌, ◌≤◌, List, [], take, Some, ap, sym, ◌∙◌, subst, arith}
use Rattle.std.specs.Prelude.{IsSome, is_none}
use Rattle.std.proofs.lemmas.List.{take-map}
use Rattle.phase_message.specs.declared.post.Post.{Post}
use Rattle.phase_message.specs.Shape.{Shape}
use Rattle.phase_message.specs.Slots.{slots_before}
use Rattle.stage_log.specs.declared.seen.Seen.{Seen}
use Rattle.stage_log.specs.Log.{before, contents_of}
use Rattle.stage_log.specs.Running.{Carries}
use Rattle.stage_log.specs.Seen.{HasSeen}
use Rattle.stage_log.specs.Table.{Log}
use Rattle.stage_log.proofs.Fronts.{before-front, first_wrong-take, view_of-take}
use Rattle.shuffle_blame.specs.Asked.{past_of}
use Rattle.honest_say.specs.Pasts.{posts_before}
use Rattle.honest_say.proofs.PastLemmas.{complete-posts, posts-are}

-- the past at an earlier stage is a front of the past
pub past-front : (log : Log) (stage later : ℕ) → stage ≤ later → IsSome (before log later)
    → past_of log stage ≡ take (slots_before log.shape stage) (past_of log later)
past-front log stage later le complete =
    let posts : List Post = posts_before log later in
    let front = before-front log stage later posts le (complete-posts log later complete) in
    ap contents_of (posts-are log stage (take (slots_before log.shape stage) posts) front)
    ∙ sym (take-map (λ (post : Post). post.content) (slots_before log.shape stage) posts)

-- what was seen looks at that front alone
pub seen-front : (shape : Shape) (past : List (List ℕ)) (stage : ℕ) (seen : Seen)
    → HasSeen shape (take (slots_before shape stage) past) stage seen → HasSeen shape past stage seen
seen-front shape past stage seen has = record {
  view = subst (λ (v : List ℕ). Carries seen.running v []) (view_of-take shape past stage stage (omega arith)) has.view;
  right = has.right ∙ ap is_none (first_wrong-take shape past stage stage (omega arith));
}

-- the stage was passed
pub seen-next : (log : Log) (stage : ℕ) (seen next : Seen) → IsSome (before log (stage + 1))
    → ((posts : List Post) → before log (stage + 1) ≡ Some posts → HasSeen log.shape (contents_of posts) stage seen
    → HasSeen log.shape (contents_of posts) (stage + 1) next)
    → HasSeen log.shape (past_of log stage) stage seen → HasSeen log.shape (past_of log (stage + 1)) (stage + 1) next
seen-next log stage seen next complete passes has =
    passes (posts_before log (stage + 1)) (complete-posts log (stage + 1) complete)
    (seen-front log.shape (past_of log (stage + 1)) stage seen
    (subst (λ (past : List (List ℕ)). HasSeen log.shape past stage seen) (past-front log stage (stage + 1) (omega arith) complete) has))
