-- Deliveries that change nothing. What a member keeps is of the grammar, whatever its conduct is.
use Rattle.std.proofs.Common.{◌≡◌, ◌⊎◌, ℕ, zero, suc, true, false, List, [], ◌∷◌, Option, Some, None, Result, Ok, Err, ap, sym, ◌∙◌, refl, subst, inl, inr}
use Rattle.std.specs.Prelude.{◌==◌, ◌*◌, fold, is_ok, is_some, option_and_then, unwrap_or, if◌then◌else◌}
use Rattle.std.specs.Fn.{iterate}
use Rattle.std.specs.Result.{result_ok}
use Rattle.std.proofs.lemmas.Bool.{cases_Bool, cond-false, cond-true}
use Rattle.std.proofs.lemmas.Option.{none-some}
use Rattle.std.proofs.lemmas.Slice.Eq.{bytes_eq-Decides}
use Rattle.phase_message.specs.declared.header.Header.{Header}
use Rattle.phase_message.specs.declared.post.Post.{Post}
use Rattle.phase_message.specs.declared.stage.Slot.{Slot}
use Rattle.phase_message.specs.Offence.{content_read}
use Rattle.phase_message.specs.Slots.{stage_count}
use Rattle.signed_post.specs.declared.post.PostRefusal.{PostRefusal}
use Rattle.signed_post.specs.declared.post.PostRefusal.TheVariants.{Frame}
use Rattle.signed_post.specs.Admission.{admission_of_bytes, framed_admission_of}
use Rattle.signed_post.specs.Frame.{frame_of}
use Rattle.stage_log.specs.Table.{Log, empty_log, filled, kept_in}
use Rattle.stage_log.proofs.KeptPosts.{empty-keeps, kept-post}
use Rattle.round_spec.specs.Embedded.{slot_named}
use Rattle.round_spec.specs.Say.{Configuration, shape_in, signed_at}
use Rattle.round_spec.specs.Verdict.{Convicts, Done, Goes, Verdict}
use Rattle.round_spec.specs.Course.{is_open}
use Rattle.round_spec.specs.Result.{Heard, fault_shown, heard_of, heard_of_post, heard_with}
use Rattle.member_spec.specs.declared.conduct.Speech.{Speech}
use Rattle.member_spec.specs.declared.conduct.Speech.TheVariants.{Say, Wait, Silent}
use Rattle.member_spec.specs.declared.mood.Mood.{Mood}
use Rattle.member_spec.specs.declared.mood.Mood.TheVariants.{Unasked, PutOff, Spoken, Mute}
use Rattle.member_spec.specs.declared.taken.Taken.{Taken}
use Rattle.member_spec.specs.declared.taken.Taken.TheVariants.{Own, Same}
use Rattle.member_spec.specs.Actor.{Actor, actor_after, actor_at_start, actor_behind_answer, actor_behind_question, actor_behind_repeat, content_to_say, first_actor, actor_behind_delivery, is_due, actor_with_heard, actor_behind_steps, speech_about, stage_posts, actor_behind_heard, actor_behind_step, actor_behind_step_with, actor_behind_fault, actor_behind_post}
use Rattle.member_spec.specs.Replies.{Replies}
use Rattle.member_spec.specs.Taking.{IdleLeavesAll, LeavesAll, answer_by_end, answer_to, idle_answer, is_content}
use Rattle.member_spec.proofs.Hearing.{contradiction-full, contradiction-same, fault-inside, fault-of, fault-outside}

-- ---- what is kept is of the grammar

-- each post that is kept has a content of the grammar
pub KeepsRead : Configuration → Log → Type 0
KeepsRead c log = (slot : Slot) (post : Post) → kept_in log slot ≡ Some post → is_ok (content_read (shape_in c) post.content) ≡ true

filled-read : (c : Configuration) (log : Log) (slot : Slot) (post : Post) → is_ok (content_read (shape_in c) post.content) ≡ true
    → KeepsRead c log
    → KeepsRead c (filled log slot post)
unfolding KeepsRead
filled-read c log slot post reads keeps other kept e = elim (kept-post log slot other post kept e) [
  | inl old ↦ keeps other kept old
  | inr new ↦ ap (λ (p : Post). is_ok (content_read (shape_in c) p.content)) new ∙ reads
]

empty-read : (c : Configuration) → KeepsRead c (empty_log (shape_in c))
unfolding KeepsRead
empty-read c slot post e = absurd (empty-keeps (shape_in c) slot post e)

post-read : (c : Configuration) (a : Actor) (post : Post) → KeepsRead c a.log → KeepsRead c (actor_behind_post c a post).log
post-read c a post keeps = by_read (cases_Bool (is_ok (content_read (shape_in c) post.content)))
  where
    by_read : (is_ok (content_read (shape_in c) post.content) ≡ true) ⊎ (is_ok (content_read (shape_in c) post.content) ≡ false)
        → KeepsRead c (actor_behind_post c a post).log
    by_read (inl reads) = subst (KeepsRead c) (sym (ap (λ (x : Actor). x.log)
        (cond-true (is_ok (content_read (shape_in c) post.content)) _ _ reads)))
        (filled-read c a.log (record { stage = a.stand.at; sender = c.number }) post reads keeps)
    by_read (inr outside) = subst (KeepsRead c) (sym (ap (λ (x : Actor). x.log)
        (cond-false (is_ok (content_read (shape_in c) post.content)) _ _ outside))) keeps

answer-read : (c : Configuration) (a : Actor) (speech : Speech) → KeepsRead c a.log → KeepsRead c (actor_behind_answer c a speech).log
answer-read c a (Say bytes) keeps = post-read c a (signed_at c a.stand.at bytes) keeps
answer-read c a (Wait bytes) keeps = keeps
answer-read c a Silent keeps = keeps

step-read : (replies : Replies) (c : Configuration) (a : Actor) → KeepsRead c a.log → KeepsRead c (actor_behind_step replies c a).log
unfolding actor_behind_step
step-read replies c a keeps = by_open (cases_Bool (is_open a.ending))
  where
    by_due : (is_due c a.stand a.mood ≡ true) ⊎ (is_due c a.stand a.mood ≡ false)
        → KeepsRead c (actor_behind_step_with replies c a None).log
    by_due (inl due) = subst (KeepsRead c) (sym (ap (λ (x : Actor). x.log)
        (cond-true (is_due c a.stand a.mood) (actor_behind_question replies c a (content_to_say replies c a.stand)) a due)))
        (answer-read c a (speech_about replies c a (content_to_say replies c a.stand)) keeps)
    by_due (inr not_due) = subst (KeepsRead c) (sym (ap (λ (x : Actor). x.log)
        (cond-false (is_due c a.stand a.mood) (actor_behind_question replies c a (content_to_say replies c a.stand)) a not_due))) keeps

    by_posts : (o : Option (List Post)) → KeepsRead c (actor_behind_step_with replies c a o).log
    by_posts (Some posts) = keeps
    by_posts None = by_due (cases_Bool (is_due c a.stand a.mood))

    by_open : (is_open a.ending ≡ true) ⊎ (is_open a.ending ≡ false)
        → KeepsRead c (if is_open a.ending then actor_behind_step_with replies c a (stage_posts c a) else a).log
    by_open (inl still) = subst (KeepsRead c) (sym (ap (λ (x : Actor). x.log)
        (cond-true (is_open a.ending) (actor_behind_step_with replies c a (stage_posts c a)) a still))) (by_posts (stage_posts c a))
    by_open (inr ended) = subst (KeepsRead c) (sym (ap (λ (x : Actor). x.log)
        (cond-false (is_open a.ending) (actor_behind_step_with replies c a (stage_posts c a)) a ended))) keeps

steps-read : (replies : Replies) (c : Configuration) (n : ℕ) (a : Actor) → KeepsRead c a.log
    → KeepsRead c (iterate (actor_behind_step replies c) n a).log
steps-read replies c zero a keeps = keeps
steps-read replies c (suc n) a keeps = steps-read replies c n (actor_behind_step replies c a) (step-read replies c a keeps)

repeat-read : (replies : Replies) (c : Configuration) (a : Actor) (mood : Mood) → KeepsRead c a.log
    → KeepsRead c (actor_behind_repeat replies c a mood).log
repeat-read replies c a (PutOff bytes) keeps = answer-read c a (speech_about replies c a bytes) keeps
repeat-read replies c a Unasked keeps = keeps
repeat-read replies c a Spoken keeps = keeps
repeat-read replies c a Mute keeps = keeps

-- ---- what is heard

-- how the seven checks and what is heard of bytes fit
data Admitting (c : Configuration) (bytes : List ℕ) : Type 0 where
  Refuses : (refusal : PostRefusal) → admission_of_bytes c.roster c.round bytes ≡ Err refusal → heard_of c bytes ≡ None → Admitting c bytes
  IsOwn : (said : Header × List ℕ) → admission_of_bytes c.roster c.round bytes ≡ Ok said → (said.0.sender == c.number) ≡ true
      → heard_of c bytes ≡ None → Admitting c bytes
  Hears : (post : Post) (header : Header) → admission_of_bytes c.roster c.round bytes ≡ Ok (header, post.content)
      → (header.sender == c.number) ≡ false
      → heard_of c bytes ≡ Some (record { header = header; post = post; content = content_read (shape_in c) post.content })
      → Admitting c bytes

admitting : (c : Configuration) (bytes : List ℕ) → Admitting c bytes
unfolding heard_of
admitting c bytes = by_frame (frame_of bytes) refl
  where
    by_sender : (post : Post) (header : Header) → frame_of bytes ≡ Ok post → framed_admission_of c.roster c.round post ≡ Ok header
        → ((header.sender == c.number) ≡ true) ⊎ ((header.sender == c.number) ≡ false) → Admitting c bytes
    by_sender post header spelled is (inl own) = IsOwn (header, post.content) (admits spelled is) own
        (hears spelled is ∙ cond-true (header.sender == c.number) None _ own)
      where
        admits : frame_of bytes ≡ Ok post → framed_admission_of c.roster c.round post ≡ Ok header
            → admission_of_bytes c.roster c.round bytes ≡ Ok (header, post.content)
        admits spelled is = rw (spelled, is) refl

        hears : frame_of bytes ≡ Ok post → framed_admission_of c.roster c.round post ≡ Ok header
            → option_and_then (heard_of_post c) (result_ok (frame_of bytes)) ≡ heard_with c post header
        hears spelled is = rw (spelled, is) refl
    by_sender post header spelled is (inr other) = Hears post header (admits spelled is) other
        (hears spelled is ∙ cond-false (header.sender == c.number) None _ other)
      where
        admits : frame_of bytes ≡ Ok post → framed_admission_of c.roster c.round post ≡ Ok header
            → admission_of_bytes c.roster c.round bytes ≡ Ok (header, post.content)
        admits spelled is = rw (spelled, is) refl

        hears : frame_of bytes ≡ Ok post → framed_admission_of c.roster c.round post ≡ Ok header
            → option_and_then (heard_of_post c) (result_ok (frame_of bytes)) ≡ heard_with c post header
        hears spelled is = rw (spelled, is) refl

    by_header : (post : Post) → frame_of bytes ≡ Ok post → (r : Result Header PostRefusal) → framed_admission_of c.roster c.round post ≡ r
        → Admitting c bytes
    by_header post spelled (Ok header) is = by_sender post header spelled is (cases_Bool (header.sender == c.number))
    by_header post spelled (Err refusal) is = Refuses refusal (rw (spelled, is) refl) (rw (spelled, is) refl)

    by_frame : (r : Result Post ℕ) → frame_of bytes ≡ r → Admitting c bytes
    by_frame (Ok post) spelled = by_header post spelled (framed_admission_of c.roster c.round post) refl
    by_frame (Err at) spelled = Refuses (Frame at) (rw spelled refl) (rw spelled refl)

-- ---- one delivery

pub open-delivery : (replies : Replies) (c : Configuration) (a : Actor) (bytes : List ℕ) (o : Option Verdict) → is_open a.ending ≡ true
    → fault_shown c (kept_in a.log) bytes ≡ o → actor_behind_delivery replies c a bytes ≡ actor_behind_fault replies c a bytes o
unfolding actor_behind_delivery
open-delivery replies c a bytes o still e = cond-true (is_open a.ending)
    (actor_behind_fault replies c a bytes (fault_shown c (kept_in a.log) bytes)) a still
    ∙ ap (actor_behind_fault replies c a bytes) e

pub ended-delivery : (replies : Replies) (c : Configuration) (a : Actor) (bytes : List ℕ) → is_open a.ending ≡ false
    → actor_behind_delivery replies c a bytes ≡ a
unfolding actor_behind_delivery
ended-delivery replies c a bytes ended = cond-false (is_open a.ending)
    (actor_behind_fault replies c a bytes (fault_shown c (kept_in a.log) bytes)) a ended

-- of what nothing is heard changes nothing
pub nothing-delivered : (replies : Replies) (c : Configuration) (a : Actor) (bytes : List ℕ) → is_open a.ending ≡ true
    → heard_of c bytes ≡ None
    → actor_behind_delivery replies c a bytes ≡ a
nothing-delivered replies c a bytes still nothing = open-delivery replies c a bytes None still
    (fault-of c (kept_in a.log) bytes None nothing)
    ∙ ap (actor_behind_heard replies c a) nothing

-- nor does a content that is kept
pub same-delivered : (replies : Replies) (c : Configuration) (a : Actor) (bytes : List ℕ) (heard : Heard) (kept : Post)
    → is_open a.ending ≡ true
    → heard_of c bytes ≡ Some heard → is_ok heard.content ≡ true
    → kept_in a.log (slot_named heard.header) ≡ Some kept → kept.content ≡ heard.post.content → actor_behind_delivery replies c a bytes ≡ a
same-delivered replies c a bytes heard kept still e reads there same =
    open-delivery replies c a bytes None still (fault-of c (kept_in a.log) bytes (Some heard) e
    ∙ fault-inside c (kept_in a.log) bytes heard reads
    ∙ contradiction-full c (kept_in a.log) bytes heard kept there ∙ contradiction-same c bytes heard kept same)
    ∙ ap (actor_behind_heard replies c a) e ∙ cond-true (is_some (kept_in a.log (slot_named heard.header))) a _ (ap is_some there)

-- where the answer is by the round's end, something may have changed
not-idle : (verdict : Verdict) → LeavesAll (answer_by_end verdict) → ⊥
not-idle (Convicts t) leaves = leaves
not-idle Done leaves = leaves
not-idle Goes leaves = leaves

answer-open : (replies : Replies) (c : Configuration) (a : Actor) (bytes : List ℕ) → is_open a.ending ≡ true
    → answer_to replies c a bytes ≡ unwrap_or (idle_answer c a.log (admission_of_bytes c.roster c.round bytes))
    (answer_by_end (actor_behind_delivery replies c a bytes).ending)
unfolding answer_to
answer-open replies c a bytes still = cond-true (is_open a.ending) _ _ still

-- an answer that tells of no change is right
idle-delivery : (replies : Replies) (c : Configuration) (a : Actor) (bytes : List ℕ) → KeepsRead c a.log
    → LeavesAll (answer_to replies c a bytes)
    → actor_behind_delivery replies c a bytes ≡ a
unfolding KeepsRead
idle-delivery replies c a bytes keeps leaves = elim (cases_Bool (is_open a.ending)) [
  | inr ended ↦ ended-delivery replies c a bytes ended
  | inl still ↦ by_admission still (admitting c bytes)
]
  where
    by_kept : is_open a.ending ≡ true → (post : Post) (header : Header)
        → admission_of_bytes c.roster c.round bytes ≡ Ok (header, post.content)
        → (header.sender == c.number) ≡ false
        → heard_of c bytes ≡ Some (record { header = header; post = post; content = content_read (shape_in c) post.content })
        → (is_content post.content (kept_in a.log (slot_named header)) ≡ true)
        ⊎ (is_content post.content (kept_in a.log (slot_named header)) ≡ false)
        → actor_behind_delivery replies c a bytes ≡ a
    by_kept still post header admits other e (inl same) = by_post (kept_in a.log (slot_named header)) refl same
      where
        by_post : (o : Option Post) → kept_in a.log (slot_named header) ≡ o → is_content post.content o ≡ true
            → actor_behind_delivery replies c a bytes ≡ a
        by_post None there same = absurd cc
        by_post (Some kept) there same =
            let equal : kept.content ≡ post.content = (bytes_eq-Decides kept.content post.content).0 same in
            same-delivered replies c a bytes (record { header = header; post = post; content = content_read (shape_in c) post.content })
            kept still e
            (sym (ap (λ (b : List ℕ). is_ok (content_read (shape_in c) b)) equal) ∙ keeps (slot_named header) kept there) there equal
    by_kept still post header admits other e (inr new) = absurd
        (not-idle (actor_behind_delivery replies c a bytes).ending (subst LeavesAll told leaves))
      where
        none : idle_answer c a.log (Ok (header, post.content)) ≡ None
        none = cond-false (header.sender == c.number) (Some Own)
            (if is_content post.content (kept_in a.log (slot_named header)) then Some Same else None) other
            ∙ cond-false (is_content post.content (kept_in a.log (slot_named header))) (Some Same) None new

        told : answer_to replies c a bytes ≡ answer_by_end (actor_behind_delivery replies c a bytes).ending
        told = answer-open replies c a bytes still
            ∙ ap (λ (o : Option Taken). unwrap_or o (answer_by_end (actor_behind_delivery replies c a bytes).ending))
            (ap (idle_answer c a.log) admits ∙ none)

    by_admission : is_open a.ending ≡ true → Admitting c bytes → actor_behind_delivery replies c a bytes ≡ a
    by_admission still (Refuses refusal admits nothing) = nothing-delivered replies c a bytes still nothing
    by_admission still (IsOwn said admits own nothing) = nothing-delivered replies c a bytes still nothing
    by_admission still (Hears post header admits other e) = by_kept still post header admits other e
        (cases_Bool (is_content post.content (kept_in a.log (slot_named header))))

-- ---- all deliveries

-- a new post is of the grammar where no fault is shown
new-read : (c : Configuration) (log : Log) (bytes : List ℕ) (post : Post) (header : Header)
    → heard_of c bytes ≡ Some (record { header = header; post = post; content = content_read (shape_in c) post.content })
    → fault_shown c (kept_in log) bytes ≡ None → is_ok (content_read (shape_in c) post.content) ≡ true
new-read c log bytes post header e sound = elim (cases_Bool (is_ok (content_read (shape_in c) post.content))) [
  | inl reads ↦ reads
  | inr outside ↦
      let heard : Heard = record { header = header; post = post; content = content_read (shape_in c) post.content } in
      let fault = fault-outside c (kept_in log) bytes heard outside in
      absurd (none-some fault.0 (sym sound ∙ fault-of c (kept_in log) bytes (Some heard) e ∙ fault.2 (kept_in log)))
]

delivery-read : (replies : Replies) (c : Configuration) (a : Actor) (bytes : List ℕ) → KeepsRead c a.log
    → KeepsRead c (actor_behind_delivery replies c a bytes).log
delivery-read replies c a bytes keeps = elim (cases_Bool (is_open a.ending)) [
  | inr ended ↦ subst (λ (x : Actor). KeepsRead c x.log) (sym (ended-delivery replies c a bytes ended)) keeps
  | inl still ↦ by_fault still (fault_shown c (kept_in a.log) bytes) refl
]
  where
    by_full : (post : Post) (header : Header) → is_ok (content_read (shape_in c) post.content) ≡ true
        → (is_some (kept_in a.log (slot_named header)) ≡ true) ⊎ (is_some (kept_in a.log (slot_named header)) ≡ false)
        → KeepsRead c (actor_behind_heard replies c a (Some (record
        { header = header; post = post; content = content_read (shape_in c) post.content }))).log
    by_full post header reads (inl full) = subst (λ (x : Actor). KeepsRead c x.log)
        (sym (cond-true (is_some (kept_in a.log (slot_named header))) a _ full)) keeps
    by_full post header reads (inr empty) =
        let heard : Heard = record { header = header; post = post; content = content_read (shape_in c) post.content } in
        subst (λ (x : Actor). KeepsRead c x.log) (sym (cond-false (is_some (kept_in a.log (slot_named header))) a
        (actor_behind_steps replies c (actor_behind_repeat replies c (actor_with_heard a heard) a.mood)) empty))
        (steps-read replies c (2 * stage_count (shape_in c)) (actor_behind_repeat replies c (actor_with_heard a heard) a.mood)
        (repeat-read replies c (actor_with_heard a heard) a.mood (filled-read c a.log (slot_named header) post reads keeps)))

    by_heard : fault_shown c (kept_in a.log) bytes ≡ None → Admitting c bytes
        → KeepsRead c (actor_behind_heard replies c a (heard_of c bytes)).log
    by_heard sound (Refuses refusal admits nothing) = subst (λ (o : Option Heard). KeepsRead c (actor_behind_heard replies c a o).log)
        (sym nothing) keeps
    by_heard sound (IsOwn said admits own nothing) = subst (λ (o : Option Heard). KeepsRead c (actor_behind_heard replies c a o).log)
        (sym nothing) keeps
    by_heard sound (Hears post header admits other e) = subst (λ (o : Option Heard). KeepsRead c (actor_behind_heard replies c a o).log)
        (sym e)
        (by_full post header (new-read c a.log bytes post header e sound) (cases_Bool (is_some (kept_in a.log (slot_named header)))))

    by_fault : is_open a.ending ≡ true → (o : Option Verdict) → fault_shown c (kept_in a.log) bytes ≡ o
        → KeepsRead c (actor_behind_delivery replies c a bytes).log
    by_fault still (Some verdict) e = subst (λ (x : Actor). KeepsRead c x.log)
        (sym (open-delivery replies c a bytes (Some verdict) still e)) keeps
    by_fault still None e = subst (λ (x : Actor). KeepsRead c x.log) (sym (open-delivery replies c a bytes None still e))
        (by_heard e (admitting c bytes))

fold-read : (replies : Replies) (c : Configuration) (a : Actor) (delivered : List (List ℕ)) → KeepsRead c a.log
    → KeepsRead c (fold (actor_behind_delivery replies c) a delivered).log
fold-read replies c a [] keeps = keeps
fold-read replies c a (bytes ∷ rest) keeps = fold-read replies c (actor_behind_delivery replies c a bytes) rest
    (delivery-read replies c a bytes keeps)

-- what a member keeps is of the grammar
pub actor-read : (replies : Replies) (c : Configuration) (delivered : List (List ℕ)) → KeepsRead c (actor_after replies c delivered).log
unfolding actor_after
actor-read replies c delivered = fold-read replies c (actor_at_start replies c) delivered
    (steps-read replies c (2 * stage_count (shape_in c)) (first_actor c) (empty-read c))

pub idle_leaves_all : IdleLeavesAll
idle_leaves_all replies c delivered bytes leaves = idle-delivery replies c (actor_after replies c delivered) bytes
    (actor-read replies c delivered) leaves
