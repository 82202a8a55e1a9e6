-- The posts that show a bad pad: those of all slots before the pads, and the pads of a member.
use Rattle.std.proofs.Common.{◌≡◌, ℕ, zero, suc, ◌+◌, ◌*◌, ◌<◌, ◌≤◌, ◌^◌, List, [], ◌∷◌, ◌++◌, All, length, get_or, map, take, Some, sym, ap, subst, ◌∙◌, arith, inl, inr, length-append}
use Rattle.std.specs.Prelude.{◌⊎◌, IsSome}
use Rattle.std.proofs.lemmas.Bool.{cases_lt}
use Rattle.std.proofs.lemmas.List.{get_or-map, get_or-take, length-map, length-take-le}
use Rattle.std.proofs.lemmas.Option.{slice_get-get_or}
use Rattle.phase_message.specs.declared.post.Post.{Post}
use Rattle.phase_message.specs.declared.stage.Slot.{Slot}
use Rattle.phase_message.specs.Post.{post_spelling}
use Rattle.phase_message.specs.Shape.{Shape}
use Rattle.phase_message.specs.Slots.{slot_number, slots_before, slots_of}
use Rattle.phase_message.proofs.StageCounts.{before-pads}
use Rattle.phase_message.proofs.SlotLists.{length-slots_of, slot_at-is, slot_number-within, slots_before-most, slots_before-rises}
use Rattle.stage_log.specs.Log.{before}
use Rattle.stage_log.proofs.Fronts.{before-front, some_is}
use Rattle.honest_say.specs.Pasts.{posts_before}
use Rattle.honest_say.proofs.PastLemmas.{complete-posts, posts-are}
use Rattle.round_spec.specs.Slots.{pad_stage}
use Rattle.round_spec.specs.Verdict.{no_post}
use Rattle.closing_verdict.specs.Judgement.{Completed, IsComplete}
use Rattle.closing_verdict.proofs.ClosingPosts.{closed-long, closed-short}

-- ---- what they are

-- the posts before an earlier stage are the front of all
pub front-there : (c : Completed) → IsComplete c → (stage : ℕ) → stage ≤ c.stage
    → before c.log stage ≡ Some (take (slots_before c.log.shape stage) (posts_before c.log (c.stage + 1)))
front-there c is stage le = before-front c.log stage (c.stage + 1) (posts_before c.log (c.stage + 1)) (omega (arith, le))
    (complete-posts c.log (c.stage + 1) is.there)

pub front-some : (c : Completed) → IsComplete c → (stage : ℕ) → stage ≤ c.stage → IsSome (before c.log stage)
front-some c is stage le = some_is (before c.log stage) (take (slots_before c.log.shape stage) (posts_before c.log (c.stage + 1)))
    (front-there c is stage le)

pub front-is : (c : Completed) → IsComplete c → (stage : ℕ) → stage ≤ c.stage
    → posts_before c.log stage ≡ take (slots_before c.log.shape stage) (posts_before c.log (c.stage + 1))
front-is c is stage le = posts-are c.log stage (take (slots_before c.log.shape stage) (posts_before c.log (c.stage + 1)))
    (front-there c is stage le)

pub front-long : (c : Completed) → IsComplete c → (stage : ℕ) → stage ≤ c.stage
    → length (posts_before c.log stage) ≡ slots_before c.log.shape stage
front-long c is stage le =
    ap (λ (t : List Post). length t) (front-is c is stage le)
    ∙ length-take-le (slots_before c.log.shape stage) (posts_before c.log (c.stage + 1))
    (omega (arith, closed-long c is, slots_before-rises c.log.shape stage (c.stage + 1) (omega (arith, le))))

-- each of them is short
post-short : (c : Completed) → IsComplete c → (k : ℕ) → k < slots_before c.log.shape (c.stage + 1)
    → length (post_spelling (get_or (posts_before c.log (c.stage + 1)) k no_post)) < 2 ^ 32
post-short c is k lt =
    let shape : Shape = c.log.shape in
    let nobody : Slot = record { stage = 0; sender = 0 } in
    let slot : Slot = get_or (slots_of shape) k nobody in
    let at = slot_at-is shape k slot (slice_get-get_or (slots_of shape) k nobody
    (omega (arith, lt, slots_before-most shape (c.stage + 1), length-slots_of shape))) in
    let within = slot_number-within shape slot.stage slot.sender at.0 in
    let within_stage : slot.stage ≤ c.stage = by_order slot.stage (cases_lt c.stage slot.stage) within.0 at.1 in
    let here = closed-short c is slot at.0 within_stage in
    subst (λ (n : ℕ). length (post_spelling (get_or (posts_before c.log (c.stage + 1)) n no_post)) < 2 ^ 32)
    (ap (λ (s : Shape). slot_number s slot.stage slot.sender) (sym is.shape) ∙ at.1) here
  where
    by_order : (stage : ℕ) → (c.stage < stage) ⊎ (stage ≤ c.stage)
        → slots_before c.log.shape stage ≤ slot_number c.log.shape stage
        (get_or (slots_of c.log.shape) k (record { stage = 0; sender = 0 })).sender
        → slot_number c.log.shape stage (get_or (slots_of c.log.shape) k (record { stage = 0; sender = 0 })).sender ≡ k → stage ≤ c.stage
    by_order stage (inl later) low number = absurd (omega (
      arith,
      later,
      low,
      number,
      lt,
      slots_before-rises c.log.shape (c.stage + 1) stage
          (omega (arith, later)),
    ))
    by_order stage (inr within) low number = within

pub front-short : (c : Completed) → IsComplete c → (stage : ℕ) → stage ≤ c.stage
    → All (λ post. length post < 2 ^ 32) (map post_spelling (posts_before c.log stage))
front-short c is stage le = λ k d lt.
    let posts : List Post = posts_before c.log stage in
    let all : List Post = posts_before c.log (c.stage + 1) in
    let n : ℕ = slots_before c.log.shape stage in
    let few : k < length posts = omega (arith, lt, length-map posts post_spelling) in
    let below : k < n = omega (arith, few, front-long c is stage le) in
    let there : get_or (map post_spelling posts) k d ≡ post_spelling (get_or all k no_post)
    = get_or-map post_spelling posts k no_post d few
    ∙ ap post_spelling (ap (λ (t : List Post). get_or t k no_post) (front-is c is stage le) ∙ get_or-take n all k no_post below) in
    subst (λ (b : List ℕ). length b < 2 ^ 32) (sym there) (post-short c is k
    (omega (arith, below, slots_before-rises c.log.shape stage (c.stage + 1) (omega (arith, le)))))

-- how many they are with the pads
pub pads-count : (shape : Shape) (posts : List Post) (front now : List (List ℕ)) (pads : List ℕ)
    → length posts ≡ slots_before shape (pad_stage shape) → front ≡ map post_spelling posts
    → now ≡ front ++ pads ∷ [] → length now ≡ 5 * shape.members + 1
pads-count shape posts front now pads long is e =
    let whole : length now ≡ length front + 1 = ap (λ (t : List (List ℕ)). length t) e ∙ length-append front (pads ∷ []) in
    let first : length front ≡ length posts = ap (λ (t : List (List ℕ)). length t) is ∙ length-map posts post_spelling in
    omega (arith, whole, first, long, before-pads shape)
