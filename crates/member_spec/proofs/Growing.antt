-- The posts that a member makes only grow.
use Rattle.std.proofs.Common.{◌≡◌, ℕ, zero, suc, Bool, true, false, List, [], ◌∷◌, ◌++◌, Option, Some, None, ap, sym, ◌∙◌, refl, subst, inl, inr, append_assoc, append-nil}
use Rattle.std.specs.Prelude.{◌*◌, fold, is_ok, is_some, if◌then◌else◌}
use Rattle.std.specs.Fn.{iterate}
use Rattle.std.proofs.lemmas.Bool.{cases_Bool, cond-false, cond-true}
use Rattle.std.proofs.lemmas.List.Sums.{fold-append}
use Rattle.phase_message.specs.declared.post.Post.{Post}
use Rattle.phase_message.specs.Offence.{content_read}
use Rattle.phase_message.specs.Slots.{stage_count}
use Rattle.stage_log.specs.Table.{kept_in}
use Rattle.round_spec.specs.Embedded.{slot_named}
use Rattle.round_spec.specs.Say.{Configuration, shape_in, signed_at}
use Rattle.round_spec.specs.Verdict.{Verdict}
use Rattle.round_spec.specs.Course.{is_open}
use Rattle.round_spec.specs.Result.{Heard, fault_shown, heard_of}
use Rattle.member_spec.specs.declared.conduct.Speech.{Speech}
use Rattle.member_spec.specs.declared.conduct.Speech.TheVariants.{Say, Wait, Silent}
use Rattle.member_spec.specs.declared.mood.Mood.{Mood}
use Rattle.member_spec.specs.declared.mood.Mood.TheVariants.{Unasked, PutOff, Spoken, Mute}
use Rattle.member_spec.specs.Actor.{Actor, actor_after, actor_at_start, actor_behind_answer, actor_behind_question, actor_behind_repeat, content_to_say, actor_behind_delivery, is_due, actor_with_heard, actor_behind_steps, speech_about, stage_posts, actor_behind_heard, actor_behind_step, actor_behind_step_with, actor_behind_fault, actor_behind_post}
use Rattle.member_spec.specs.Growing.{GoesOnTo, PostsGrow}
use Rattle.member_spec.specs.Replies.{Replies}

-- the posts of a member go on to those of another
Grows : Actor → Actor → Type 0
Grows a b = GoesOnTo a.made b.made

same : (a b : Actor) → b.made ≡ a.made → Grows a b
unfolding Grows
same a b e = ([], e ∙ sym (append-nil a.made))

further : (a b d : Actor) → Grows a b → Grows b d → Grows a d
unfolding Grows
further a b d on more = (on.0 ++ more.0, more.1 ∙ ap (λ (posts : List Post). posts ++ more.0) on.1 ∙ append_assoc a.made on.0 more.0)

-- of two actors that one question chooses among
either : (a x y : Actor) (b : Bool) → Grows a x → Grows a y → Grows a (if b then x else y)
either a x y true first second = first
either a x y false first second = second

post-grows : (c : Configuration) (a : Actor) (post : Post) → Grows a (actor_behind_post c a post)
unfolding Grows
post-grows c a post = elim (cases_Bool (is_ok (content_read (shape_in c) post.content))) [
  | inl reads ↦ (post ∷ [], ap (λ (x : Actor). x.made) (cond-true (is_ok (content_read (shape_in c) post.content)) _ _ reads))
  | inr outside ↦ (post ∷ [], ap (λ (x : Actor). x.made) (cond-false (is_ok (content_read (shape_in c) post.content)) _ _ outside))
]

answer-grows : (c : Configuration) (a : Actor) (speech : Speech) → Grows a (actor_behind_answer c a speech)
answer-grows c a (Say bytes) = post-grows c a (signed_at c a.stand.at bytes)
answer-grows c a (Wait bytes) = same a _ refl
answer-grows c a Silent = same a _ refl

with-grows : (replies : Replies) (c : Configuration) (a : Actor) (o : Option (List Post)) → Grows a (actor_behind_step_with replies c a o)
with-grows replies c a (Some posts) = same a _ refl
with-grows replies c a None = either a (actor_behind_question replies c a (content_to_say replies c a.stand)) a (is_due c a.stand a.mood)
    (answer-grows c a (speech_about replies c a (content_to_say replies c a.stand))) (same a a refl)

step-grows : (replies : Replies) (c : Configuration) (a : Actor) → Grows a (actor_behind_step replies c a)
unfolding actor_behind_step
step-grows replies c a = either a (actor_behind_step_with replies c a (stage_posts c a)) a (is_open a.ending)
    (with-grows replies c a (stage_posts c a)) (same a a refl)

steps-grow : (replies : Replies) (c : Configuration) (n : ℕ) (a : Actor) → Grows a (iterate (actor_behind_step replies c) n a)
steps-grow replies c zero a = same a a refl
steps-grow replies c (suc n) a = further a (actor_behind_step replies c a)
    (iterate (actor_behind_step replies c) n (actor_behind_step replies c a)) (step-grows replies c a)
    (steps-grow replies c n (actor_behind_step replies c a))

repeat-grows : (replies : Replies) (c : Configuration) (a : Actor) (mood : Mood) → Grows a (actor_behind_repeat replies c a mood)
repeat-grows replies c a (PutOff bytes) = answer-grows c a (speech_about replies c a bytes)
repeat-grows replies c a Unasked = same a a refl
repeat-grows replies c a Spoken = same a a refl
repeat-grows replies c a Mute = same a a refl

heard-post-grows : (replies : Replies) (c : Configuration) (a : Actor) (o : Option Heard) → Grows a (actor_behind_heard replies c a o)
heard-post-grows replies c a None = same a a refl
heard-post-grows replies c a (Some heard) =
    let kept : Actor = actor_with_heard a heard in
    let again : Actor = actor_behind_repeat replies c kept a.mood in
    either a a (actor_behind_steps replies c again) (is_some (kept_in a.log (slot_named heard.header))) (same a a refl)
    (further a kept (actor_behind_steps replies c again) (same a kept refl)
    (further kept again (actor_behind_steps replies c again) (repeat-grows replies c kept a.mood)
    (steps-grow replies c (2 * stage_count (shape_in c)) again)))

fault-grows : (replies : Replies) (c : Configuration) (a : Actor) (bytes : List ℕ) (o : Option Verdict)
    → Grows a (actor_behind_fault replies c a bytes o)
fault-grows replies c a bytes (Some verdict) = same a _ refl
fault-grows replies c a bytes None = heard-post-grows replies c a (heard_of c bytes)

delivery-grows : (replies : Replies) (c : Configuration) (a : Actor) (bytes : List ℕ) → Grows a (actor_behind_delivery replies c a bytes)
unfolding actor_behind_delivery
delivery-grows replies c a bytes = either a (actor_behind_fault replies c a bytes (fault_shown c (kept_in a.log) bytes)) a
    (is_open a.ending) (fault-grows replies c a bytes (fault_shown c (kept_in a.log) bytes)) (same a a refl)

pub posts_grow : PostsGrow
unfolding actor_after Grows
posts_grow replies c delivered bytes =
    subst (λ (b : Actor). GoesOnTo (fold (actor_behind_delivery replies c) (actor_at_start replies c) delivered).made b.made)
    (sym (fold-append (actor_behind_delivery replies c) (actor_at_start replies c) delivered (bytes ∷ [])))
    (delivery-grows replies c (fold (actor_behind_delivery replies c) (actor_at_start replies c) delivered) bytes)
