-- A member posts at most once at each stage, whatever its conduct is.
use Rattle.std.proofs.Common.{◌≡◌, ℕ, zero, suc, ◌+◌, ◌≤◌, ◌<◌, Bool, true, false, List, [], ◌∷◌, ◌++◌, Option, Some, None, length, ap, sym, ◌∙◌, refl, subst, arith, inl, inr}
use Rattle.std.specs.Prelude.{◌*◌, fold, is_ok, is_some, if◌then◌else◌}
use Rattle.std.specs.Fn.{iterate}
use Rattle.std.proofs.lemmas.Bool.{cases_lt, false≢true, ltb-true}
use Rattle.std.proofs.lemmas.List.{length-append}
use Rattle.phase_message.specs.declared.post.Post.{Post}
use Rattle.phase_message.specs.declared.stage.StageKind.{StageKind}
use Rattle.phase_message.specs.Offence.{content_read}
use Rattle.phase_message.specs.Slots.{stage_count}
use Rattle.phase_message.specs.Stages.{is_slot, speaks}
use Rattle.phase_message.proofs.SlotLists.{stage-past}
use Rattle.stage_log.specs.Log.{all_some}
use Rattle.stage_log.specs.Table.{kept_in, posts_in}
use Rattle.round_spec.specs.Embedded.{slot_named}
use Rattle.round_spec.specs.Say.{Configuration, shape_in, signed_at}
use Rattle.round_spec.specs.Verdict.{Verdict}
use Rattle.round_spec.specs.Course.{is_open}
use Rattle.round_spec.specs.Result.{Heard, fault_shown, heard_of}
use Rattle.round_spec.proofs.Reached.{behind-at}
use Rattle.member_spec.specs.declared.conduct.Speech.{Speech}
use Rattle.member_spec.specs.declared.conduct.Speech.TheVariants.{Say, Wait, Silent}
use Rattle.member_spec.specs.declared.mood.Mood.{Mood}
use Rattle.member_spec.specs.declared.mood.Mood.TheVariants.{Unasked, PutOff, Spoken, Mute}
use Rattle.member_spec.specs.Actor.{Actor, actor_after, actor_at_start, actor_behind_answer, actor_behind_delivery, actor_behind_fault, actor_behind_heard, actor_behind_post, actor_behind_question, actor_behind_repeat, actor_behind_step, actor_behind_step_with, actor_behind_steps, actor_with_heard, content_to_say, first_actor, is_due, speech_about, stage_posts}
use Rattle.member_spec.specs.Replies.{Replies}
use Rattle.group_spec.proofs.Made.{choose}

-- whether it was asked where it stands
was-asked : Mood → ℕ
was-asked Unasked = 0
was-asked (PutOff bytes) = 1
was-asked Spoken = 1
was-asked Mute = 1

-- whether it put its content off there
has-put_off : Mood → ℕ
has-put_off Unasked = 0
has-put_off (PutOff bytes) = 1
has-put_off Spoken = 0
has-put_off Mute = 0

-- it has made as many posts at most as it was asked at stages of the round
record Within (c : Configuration) (a : Actor) : Type 0 where
  posts : length a.made + has-put_off a.mood ≤ a.stand.at + was-asked a.mood
  stages : a.stand.at + was-asked a.mood ≤ stage_count (shape_in c)

-- it has not spoken yet at the stage where it stands
record IsBefore (c : Configuration) (a : Actor) : Type 0 where
  posts : length a.made ≤ a.stand.at
  stages : a.stand.at + 1 ≤ stage_count (shape_in c)

post-within : (c : Configuration) (a : Actor) (post : Post) → IsBefore c a → Within c (actor_behind_post c a post)
unfolding was-asked has-put_off
post-within c a post before =
    let more : length (a.made ++ post ∷ []) ≡ length a.made + 1 = length-append a.made (post ∷ []) in
    choose (λ (x : Actor). Within c x) (is_ok (content_read (shape_in c) post.content)) _ _
    (λ _. record { posts = omega (arith, before.posts, more); stages = before.stages })
    (λ _. record { posts = omega (arith, before.posts, more); stages = before.stages })

answer-within : (c : Configuration) (a : Actor) (speech : Speech) → IsBefore c a → Within c (actor_behind_answer c a speech)
unfolding was-asked has-put_off
answer-within c a (Say bytes) before = post-within c a (signed_at c a.stand.at bytes) before
answer-within c a (Wait bytes) before = record { posts = omega (arith, before.posts); stages = before.stages }
answer-within c a Silent before = record { posts = omega (arith, before.posts); stages = before.stages }

-- a stage with posts is one of the round
posts-in_round : (c : Configuration) (a : Actor) (posts : List Post) (b : Bool) (o : Option (List Post))
    → (if b then o else None) ≡ Some posts → b ≡ true
posts-in_round c a posts true o e = refl
posts-in_round c a posts false o e = absurd cc

-- so is one at which it is to be asked
slot-in_round : (c : Configuration) (stage : ℕ) → is_slot (shape_in c) stage c.number ≡ true → stage < stage_count (shape_in c)
slot-in_round c stage is = elim (cases_lt stage (stage_count (shape_in c))) [
  | inl within ↦ within
  | inr past ↦ absurd (false≢true (ap (λ (kind : Option StageKind). speaks (shape_in c) kind c.number)
      (sym (stage-past (shape_in c) stage past)) ∙ is))
]

due-before : (c : Configuration) (a : Actor) (mood : Mood) → a.mood ≡ mood → Within c a → is_due c a.stand mood ≡ true → IsBefore c a
unfolding was-asked has-put_off
due-before c a Unasked e w due =
    let lt = slot-in_round c a.stand.at due in
    let posts : length a.made + 0 ≤ a.stand.at + 0 = subst (λ (m : Mood). length a.made + has-put_off m ≤ a.stand.at + was-asked m) e
    w.posts in
    record { posts = omega (arith, posts); stages = omega (arith, lt) }
due-before c a (PutOff bytes) e w due = absurd (false≢true due)
due-before c a Spoken e w due = absurd (false≢true due)
due-before c a Mute e w due = absurd (false≢true due)

asked-most : (mood : Mood) → was-asked mood ≤ 1
unfolding was-asked
asked-most Unasked = omega arith
asked-most (PutOff bytes) = omega arith
asked-most Spoken = omega arith
asked-most Mute = omega arith

with-within : (replies : Replies) (c : Configuration) (a : Actor) (o : Option (List Post)) → stage_posts c a ≡ o → Within c a →
    Within c (actor_behind_step_with replies c a o)
unfolding was-asked has-put_off
with-within replies c a (Some posts) e w =
    let lt = ltb-true a.stand.at (stage_count (shape_in c)) (posts-in_round c a posts _ (all_some (posts_in a.log a.stand.at)) e) in
    let next = behind-at c a.stand posts in
    let most = asked-most a.mood in
    record { posts = omega (arith, w.posts, next, most); stages = omega (arith, lt, next) }
with-within replies c a None e w =
    choose (λ (x : Actor). Within c x) (is_due c a.stand a.mood) (actor_behind_question replies c a (content_to_say replies c a.stand)) a
    (λ due. answer-within c a (speech_about replies c a (content_to_say replies c a.stand)) (due-before c a a.mood refl w due))
    (λ _. w)

step-within : (replies : Replies) (c : Configuration) (a : Actor) → Within c a → Within c (actor_behind_step replies c a)
unfolding actor_behind_step
step-within replies c a w = choose (λ (x : Actor). Within c x) (is_open a.ending) (actor_behind_step_with replies c a (stage_posts c a)) a
    (λ _. with-within replies c a (stage_posts c a) refl w) (λ _. w)

steps-within : (replies : Replies) (c : Configuration) (n : ℕ) (a : Actor) → Within c a
    → Within c (iterate (actor_behind_step replies c) n a)
steps-within replies c zero a w = w
steps-within replies c (suc n) a w = steps-within replies c n (actor_behind_step replies c a) (step-within replies c a w)

repeat-within : (replies : Replies) (c : Configuration) (a : Actor) (mood : Mood) → a.mood ≡ mood → Within c a
    → Within c (actor_behind_repeat replies c a mood)
unfolding was-asked has-put_off
repeat-within replies c a (PutOff bytes) e w =
    let posts : length a.made + 1 ≤ a.stand.at + 1 = subst (λ (m : Mood). length a.made + has-put_off m ≤ a.stand.at + was-asked m) e
    w.posts in
    let stages : a.stand.at + 1 ≤ stage_count (shape_in c) = subst (λ (m : Mood). a.stand.at + was-asked m ≤ stage_count (shape_in c)) e
    w.stages in
    answer-within c a (speech_about replies c a bytes) (record { posts = omega (arith, posts); stages = stages })
repeat-within replies c a Unasked e w = w
repeat-within replies c a Spoken e w = w
repeat-within replies c a Mute e w = w

heard-within : (replies : Replies) (c : Configuration) (a : Actor) (o : Option Heard) → Within c a
    → Within c (actor_behind_heard replies c a o)
heard-within replies c a None w = w
heard-within replies c a (Some heard) w =
    let kept : Actor = actor_with_heard a heard in
    let again : Actor = actor_behind_repeat replies c kept a.mood in
    choose (λ (x : Actor). Within c x) (is_some (kept_in a.log (slot_named heard.header))) a (actor_behind_steps replies c again) (λ _. w)
    (λ _. steps-within replies c (2 * stage_count (shape_in c)) again
    (repeat-within replies c kept a.mood refl (record { posts = w.posts; stages = w.stages })))

fault-within : (replies : Replies) (c : Configuration) (a : Actor) (bytes : List ℕ) (o : Option Verdict) → Within c a →
    Within c (actor_behind_fault replies c a bytes o)
fault-within replies c a bytes (Some verdict) w = record { posts = w.posts; stages = w.stages }
fault-within replies c a bytes None w = heard-within replies c a (heard_of c bytes) w

delivery-within : (replies : Replies) (c : Configuration) (a : Actor) (bytes : List ℕ) → Within c a
    → Within c (actor_behind_delivery replies c a bytes)
unfolding actor_behind_delivery
delivery-within replies c a bytes w =
    choose (λ (x : Actor). Within c x) (is_open a.ending) (actor_behind_fault replies c a bytes (fault_shown c (kept_in a.log) bytes)) a
    (λ _. fault-within replies c a bytes (fault_shown c (kept_in a.log) bytes) w) (λ _. w)

deliveries-within : (replies : Replies) (c : Configuration) (a : Actor) (delivered : List (List ℕ)) → Within c a →
    Within c (fold (actor_behind_delivery replies c) a delivered)
deliveries-within replies c a [] w = w
deliveries-within replies c a (bytes ∷ delivered) w =
    deliveries-within replies c (actor_behind_delivery replies c a bytes) delivered (delivery-within replies c a bytes w)

start-within : (replies : Replies) (c : Configuration) → Within c (actor_at_start replies c)
unfolding was-asked has-put_off
start-within replies c = steps-within replies c (2 * stage_count (shape_in c)) (first_actor c)
    (record { posts = omega arith; stages = omega arith })

-- so it makes no more posts than there are stages
pub posts-most : (replies : Replies) (c : Configuration) (delivered : List (List ℕ)) →
    length (actor_after replies c delivered).made ≤ stage_count (shape_in c)
unfolding actor_after
posts-most replies c delivered =
    let w = deliveries-within replies c (actor_at_start replies c) delivered (start-within replies c) in omega (arith, w.posts, w.stages)
