-- Where a member of any conduct stands: its steps suffice, so it stops at a stage that is not complete.
use Rattle.std.proofs.Common.{◌≡◌, ◌⊎◌, ℕ, zero, suc, ◌+◌, ◌-◌, ◌*◌, ◌<◌, ◌≤◌, Bool, true, false, List, [], ◌∷◌, Option, Some, None, ap, sym, ◌∙◌, refl, subst, arith, inl, inr}
use Rattle.std.specs.Prelude.{◌&&◌, drop, filter, fold, is_ok, is_some, nat_lt, option_map, take, if◌then◌else◌}
use Rattle.std.specs.Fn.{iterate}
use Rattle.std.specs.List.{list_all, slice_set}
use Rattle.std.specs.Option.{option_map_or}
use Rattle.std.proofs.lemmas.Bool.{and_parts, cases_Bool, cases_lt, cond-false, cond-true, false_from_ne_true, lt-ltb, ltb-true}
use Rattle.std.proofs.lemmas.Option.{none-some}
use Rattle.wire_core.proofs.AnswerLemmas.{first_below-none, first_below-some}
use Rattle.phase_message.specs.declared.post.Post.{Post}
use Rattle.phase_message.specs.declared.stage.Slot.{Slot}
use Rattle.phase_message.specs.declared.stage.StageKind.{StageKind}
use Rattle.phase_message.specs.Offence.{content_read}
use Rattle.phase_message.specs.Shape.{Shape}
use Rattle.phase_message.specs.Slots.{senders_in, slot_number, slots_before, stage_count}
use Rattle.phase_message.specs.Stages.{kind_of_stage, speaks as speaks_in}
use Rattle.phase_message.proofs.SlotLists.{stage-past}
use Rattle.stage_log.specs.Log.{all_some}
use Rattle.stage_log.specs.Table.{Log, filled, first_incomplete_of, incomplete_stage, is_complete, is_missing, kept_in, posts_in}
use Rattle.stage_log.proofs.Missing.{complete-none, incomplete-some}
use Rattle.round_spec.specs.Embedded.{slot_named}
use Rattle.round_spec.specs.Say.{Configuration, shape_in, signed_at}
use Rattle.round_spec.specs.Verdict.{Verdict}
use Rattle.round_spec.specs.Course.{Stand, is_open, stand_behind}
use Rattle.round_spec.specs.Result.{Heard, fault_shown, heard_of}
use Rattle.round_spec.proofs.Courses.{cases_Some}
use Rattle.round_spec.proofs.Reached.{behind-at}
use Rattle.member_spec.specs.declared.conduct.Speech.{Speech}
use Rattle.member_spec.specs.declared.conduct.Speech.TheVariants.{Say, Wait, Silent}
use Rattle.member_spec.specs.declared.mood.Mood.{Mood}
use Rattle.member_spec.specs.declared.mood.Mood.TheVariants.{Unasked, PutOff, Spoken, Mute}
use Rattle.member_spec.specs.Actor.{Actor, actor_after, actor_at_start, actor_behind_answer, actor_behind_delivery, actor_behind_fault, actor_behind_heard, actor_behind_post, actor_behind_question, actor_behind_repeat, actor_behind_stage, actor_behind_step, actor_behind_step_with, actor_behind_steps, actor_with_heard, content_to_say, first_actor, is_due, speech_about, stage_posts}
use Rattle.member_spec.specs.Outcomes.{bits_of}
use Rattle.member_spec.specs.Replies.{Replies}
use Rattle.member_spec.specs.Standing.{OpenStandAtFirst}
use Rattle.member_spec.proofs.Bits.{bits-missing}
use Rattle.member_spec.proofs.Resting.{stays-still}
use Rattle.member_spec.proofs.Steps.{ended-step, open-step, posts-past, posts-within}

-- ---- places that are filled

both : (a b : Bool) → a ≡ true → b ≡ true → (a && b) ≡ true
both a b first second = ap (λ (t : Bool). t && b) first ∙ second

-- a list that is full on a range is so with one place more filled
set-full : (xs : List (Option Post)) (k m n : ℕ) (post : Post) → list_all is_some (take n (drop m xs)) ≡ true
    → list_all is_some (take n (drop m (slice_set xs k (Some post)))) ≡ true
set-full [] k m n post e = e
set-full (x ∷ xs) k zero zero post e = refl
set-full (x ∷ xs) zero zero (suc n) post e = (and_parts (is_some x) (list_all is_some (take n xs)) e).1
set-full (x ∷ xs) (suc k) zero (suc n) post e =
    let parts = and_parts (is_some x) (list_all is_some (take n xs)) e in
    both (is_some x) (list_all is_some (take n (slice_set xs k (Some post)))) parts.0 (set-full xs k zero n post parts.1)
set-full (x ∷ xs) zero (suc m) n post e = e
set-full (x ∷ xs) (suc k) (suc m) n post e = set-full xs k m n post e

pub filled-complete : (log : Log) (slot : Slot) (post : Post) (stage : ℕ) → is_complete log stage ≡ true
    → is_complete (filled log slot post) stage ≡ true
filled-complete log slot post stage e =
    set-full log.posts (slot_number log.shape slot.stage slot.sender) (slots_before log.shape stage)
    (slots_before log.shape (stage + 1) - slots_before log.shape stage) post e

all-there : (places : List (Option Post)) (posts : List Post) → all_some places ≡ Some posts → list_all is_some places ≡ true
all-there [] posts e = refl
all-there (None ∷ rest) posts e = absurd (none-some posts e)
all-there (Some x ∷ rest) posts e = elim (cases_Some (all_some rest)) [
  | inl none ↦ absurd (none-some posts (sym (ap (option_map (λ (xs : List Post). x ∷ xs)) none) ∙ e))
  | inr there ↦ all-there rest there.0 there.1
]

not-there : (places : List (Option Post)) → all_some places ≡ None → list_all is_some places ≡ false
not-there [] e = absurd (none-some [] (sym e))
not-there (None ∷ rest) e = refl
not-there (Some x ∷ rest) e = elim (cases_Some (all_some rest)) [
  | inl none ↦ not-there rest none
  | inr there ↦ absurd (none-some (x ∷ there.0) (sym e ∙ ap (option_map (λ (xs : List Post). x ∷ xs)) there.1))
]

-- ---- all stages before are complete

-- a member's log is of its round, and each stage before the one where it stands is complete
pub record HasCome (c : Configuration) (a : Actor) : Type 0 where
  pub shape : a.log.shape ≡ shape_in c
  pub complete : (stage : ℕ) → stage < a.stand.at → is_complete a.log stage ≡ true

-- of two members that one question chooses among
either : (c : Configuration) (x y : Actor) (b : Bool) → HasCome c x → HasCome c y → HasCome c (if b then x else y)
either c x y true first second = first
either c x y false first second = second

post-comes : (c : Configuration) (a : Actor) (post : Post) → HasCome c a → HasCome c (actor_behind_post c a post)
post-comes c a post has = either c _ _ (is_ok (content_read (shape_in c) post.content))
    (record {
      shape = has.shape;
      complete = λ stage lt. filled-complete a.log (record { stage = a.stand.at; sender = c.number }) post stage
          (has.complete stage lt);
    })
    (record { shape = has.shape; complete = has.complete })

answer-comes : (c : Configuration) (a : Actor) (speech : Speech) → HasCome c a → HasCome c (actor_behind_answer c a speech)
answer-comes c a (Say bytes) has = post-comes c a (signed_at c a.stand.at bytes) has
answer-comes c a (Wait bytes) has = record { shape = has.shape; complete = has.complete }
answer-comes c a Silent has = record { shape = has.shape; complete = has.complete }

-- where the posts of the stage are all there, it is complete
there-complete : (c : Configuration) (a : Actor) (posts : List Post) → stage_posts c a ≡ Some posts → is_complete a.log a.stand.at ≡ true
there-complete c a posts e = elim (cases_Bool (nat_lt a.stand.at (stage_count (shape_in c)))) [
  | inl lt ↦ all-there (posts_in a.log a.stand.at) posts (sym (cond-true (nat_lt a.stand.at (stage_count (shape_in c)))
      (all_some (posts_in a.log a.stand.at)) None lt) ∙ e)
  | inr ge ↦ absurd (none-some posts (sym (cond-false (nat_lt a.stand.at (stage_count (shape_in c))) (all_some (posts_in a.log a.stand.at))
      None ge) ∙ e))
]

stage-comes : (c : Configuration) (a : Actor) (posts : List Post) → stage_posts c a ≡ Some posts → HasCome c a
    → HasCome c (actor_behind_stage c a (stand_behind c a.stand posts))
stage-comes c a posts e has = record {
  shape = has.shape;
  complete = λ stage lt. elim (cases_lt stage a.stand.at) [
    | inl below ↦ has.complete stage below
    | inr le ↦
        let same : a.stand.at ≡ stage = (let next = behind-at c a.stand posts in omega (arith, lt, next)) in
        subst (λ (s : ℕ). is_complete a.log s ≡ true) same (there-complete c a posts e)
  ];
}

with-comes : (replies : Replies) (c : Configuration) (a : Actor) (o : Option (List Post)) → stage_posts c a ≡ o → HasCome c a
    → HasCome c (actor_behind_step_with replies c a o)
with-comes replies c a (Some posts) e has = stage-comes c a posts e has
with-comes replies c a None e has = either c (actor_behind_question replies c a (content_to_say replies c a.stand)) a
    (is_due c a.stand a.mood) (answer-comes c a (speech_about replies c a (content_to_say replies c a.stand)) has) has

step-comes : (replies : Replies) (c : Configuration) (a : Actor) → HasCome c a → HasCome c (actor_behind_step replies c a)
unfolding actor_behind_step
step-comes replies c a has = either c (actor_behind_step_with replies c a (stage_posts c a)) a (is_open a.ending)
    (with-comes replies c a (stage_posts c a) refl has) has

steps-come : (replies : Replies) (c : Configuration) (n : ℕ) (a : Actor) → HasCome c a
    → HasCome c (iterate (actor_behind_step replies c) n a)
steps-come replies c zero a has = has
steps-come replies c (suc n) a has = steps-come replies c n (actor_behind_step replies c a) (step-comes replies c a has)

repeat-comes : (replies : Replies) (c : Configuration) (a : Actor) (mood : Mood) → HasCome c a
    → HasCome c (actor_behind_repeat replies c a mood)
repeat-comes replies c a (PutOff bytes) has = answer-comes c a (speech_about replies c a bytes) has
repeat-comes replies c a Unasked has = has
repeat-comes replies c a Spoken has = has
repeat-comes replies c a Mute has = has

-- ---- the steps suffice

-- how far a member has come: each stage counts two, a question one
abbrev pub asked_at : Mood → ℕ
asked_at Unasked = 0
asked_at mood = 1

abbrev pub way_of : Actor → ℕ
way_of a = 2 * a.stand.at + asked_at a.mood

asked-least : (mood : Mood) → asked_at mood ≤ 1
asked-least Unasked = omega arith
asked-least (PutOff bytes) = omega arith
asked-least Spoken = omega arith
asked-least Mute = omega arith

due-unasked : (c : Configuration) (stand : Stand) (mood : Mood) → is_due c stand mood ≡ true → asked_at mood ≡ 0
due-unasked c stand Unasked e = refl
due-unasked c stand (PutOff bytes) e = absurd cc
due-unasked c stand Spoken e = absurd cc
due-unasked c stand Mute e = absurd cc

-- a question leads further than a member that was not asked
post-further : (c : Configuration) (a : Actor) (post : Post) → way_of (actor_behind_post c a post) ≡ 2 * a.stand.at + 1
post-further c a post = elim (cases_Bool (is_ok (content_read (shape_in c) post.content))) [
  | inl reads ↦ ap way_of (cond-true (is_ok (content_read (shape_in c) post.content)) _ _ reads)
  | inr outside ↦ ap way_of (cond-false (is_ok (content_read (shape_in c) post.content)) _ _ outside)
]

answer-further : (c : Configuration) (a : Actor) (speech : Speech) → way_of (actor_behind_answer c a speech) ≡ 2 * a.stand.at + 1
answer-further c a (Say bytes) = post-further c a (signed_at c a.stand.at bytes)
answer-further c a (Wait bytes) = refl
answer-further c a Silent = refl

-- a step changes nothing, or leads further
step-further : (replies : Replies) (c : Configuration) (a : Actor)
    → (actor_behind_step replies c a ≡ a) ⊎ (way_of a < way_of (actor_behind_step replies c a))
step-further replies c a = elim (cases_Bool (is_open a.ending)) [
  | inr ended ↦ inl (ended-step replies c a ended)
  | inl still ↦ elim (cases_Some (stage_posts c a)) [
    | inr there ↦ inr (
        let step = open-step replies c a (Some there.0) still there.1 in
        let next = behind-at c a.stand there.0 in
        let least = asked-least a.mood in
        subst (λ (x : Actor). way_of a < way_of x) (sym step) (omega (arith, next, least)))
    | inl none ↦ elim (cases_Bool (is_due c a.stand a.mood)) [
      | inr not_due ↦ inl (open-step replies c a None still none ∙ cond-false (is_due c a.stand a.mood) _ a not_due)
      | inl due ↦ inr (
          let step = open-step replies c a None still none ∙ cond-true (is_due c a.stand a.mood)
          (actor_behind_question replies c a (content_to_say replies c a.stand)) a due in
          let one = answer-further c a (speech_about replies c a (content_to_say replies c a.stand)) in
          let unasked = due-unasked c a.stand a.mood due in
          subst (λ (x : Actor). way_of a < way_of x) (sym step) (omega (arith, one, unasked)))
    ]
  ]
]

-- behind the last stage nobody is asked
past-due : (c : Configuration) (stand : Stand) (mood : Mood) → stage_count (shape_in c) ≤ stand.at → is_due c stand mood ≡ false
past-due c stand Unasked le = ap (λ (o : Option StageKind). speaks_in (shape_in c) o c.number) (stage-past (shape_in c) stand.at le)
past-due c stand (PutOff bytes) le = refl
past-due c stand Spoken le = refl
past-due c stand Mute le = refl

past-still : (replies : Replies) (c : Configuration) (a : Actor) → stage_count (shape_in c) ≤ a.stand.at → actor_behind_step replies c a ≡ a
past-still replies c a le = elim (cases_Bool (is_open a.ending)) [
  | inr ended ↦ ended-step replies c a ended
  | inl still ↦ open-step replies c a None still (posts-past c a le)
      ∙ cond-false (is_due c a.stand a.mood) _ a (past-due c a.stand a.mood le)
]

-- behind enough steps one more changes nothing
pub steps-suffice : (replies : Replies) (c : Configuration) (n : ℕ) (a : Actor) → 2 * stage_count (shape_in c) ≤ way_of a + n
    → actor_behind_step replies c (iterate (actor_behind_step replies c) n a) ≡ iterate (actor_behind_step replies c) n a
steps-suffice replies c zero a far = past-still replies c a (let least = asked-least a.mood in omega (arith, far, least))
steps-suffice replies c (suc n) a far = elim (step-further replies c a) [
  | inl still ↦
      let same = ap (iterate (actor_behind_step replies c) n) still ∙ stays-still (actor_behind_step replies c) n a still in
      ap (actor_behind_step replies c) same ∙ still ∙ sym same
  | inr further ↦ steps-suffice replies c n (actor_behind_step replies c a) (omega (arith, far, further))
]

-- where a step changes nothing and the round is open, the stage is not complete
still-waits : (replies : Replies) (c : Configuration) (a : Actor) → actor_behind_step replies c a ≡ a → is_open a.ending ≡ true
    → stage_posts c a ≡ None
still-waits replies c a same still = elim (cases_Some (stage_posts c a)) [
  | inl none ↦ none
  | inr there ↦ absurd (
      let step = ap (λ (x : Actor). x.stand.at) (sym (open-step replies c a (Some there.0) still there.1) ∙ same) in
      let next = behind-at c a.stand there.0 in
      omega (arith, step, next))
]

-- ---- deliveries

-- a member waits: as long as its round is open its stage is not complete
pub record Waits (c : Configuration) (a : Actor) : Type 0 where
  pub has : HasCome c a
  pub waits : is_open a.ending ≡ true → stage_posts c a ≡ None

steps-wait : (replies : Replies) (c : Configuration) (a : Actor) → HasCome c a → Waits c (actor_behind_steps replies c a)
steps-wait replies c a has = record {
  has = steps-come replies c (2 * stage_count (shape_in c)) a has;
  waits = still-waits replies c (actor_behind_steps replies c a) (steps-suffice replies c (2 * stage_count (shape_in c)) a (omega arith));
}

heard-waits : (replies : Replies) (c : Configuration) (a : Actor) (o : Option Heard) → Waits c a
    → Waits c (actor_behind_heard replies c a o)
heard-waits replies c a None is = is
heard-waits replies c a (Some heard) is = by_kept (is_some (kept_in a.log (slot_named heard.header)))
  where
    kept : HasCome c (actor_with_heard a heard)
    kept = record {
      shape = is.has.shape;
      complete = λ stage lt. filled-complete a.log (slot_named heard.header) heard.post stage
          (is.has.complete stage lt);
    }

    by_kept : (b : Bool) → Waits c (if b then a else actor_behind_steps replies c
        (actor_behind_repeat replies c (actor_with_heard a heard) a.mood))
    by_kept true = is
    by_kept false = steps-wait replies c (actor_behind_repeat replies c (actor_with_heard a heard) a.mood)
        (repeat-comes replies c (actor_with_heard a heard) a.mood kept)

fault-waits : (replies : Replies) (c : Configuration) (a : Actor) (bytes : List ℕ) (o : Option Verdict) → is_open a.ending ≡ true
    → Waits c a
    → Waits c (actor_behind_fault replies c a bytes o)
fault-waits replies c a bytes (Some verdict) still is = record {
  has = record { shape = is.has.shape; complete = is.has.complete };
  waits =
      λ _. is.waits still;
}
fault-waits replies c a bytes None still is = heard-waits replies c a (heard_of c bytes) is

delivery-waits : (replies : Replies) (c : Configuration) (a : Actor) (bytes : List ℕ) → Waits c a
    → Waits c (actor_behind_delivery replies c a bytes)
unfolding actor_behind_delivery
delivery-waits replies c a bytes is = elim (cases_Bool (is_open a.ending)) [
  | inl still ↦ subst (Waits c) (sym (cond-true (is_open a.ending)
      (actor_behind_fault replies c a bytes (fault_shown c (kept_in a.log) bytes)) a still))
      (fault-waits replies c a bytes (fault_shown c (kept_in a.log) bytes) still is)
  | inr ended ↦ subst (Waits c) (sym (cond-false (is_open a.ending)
      (actor_behind_fault replies c a bytes (fault_shown c (kept_in a.log) bytes)) a ended)) is
]

fold-waits : (replies : Replies) (c : Configuration) (a : Actor) (delivered : List (List ℕ)) → Waits c a
    → Waits c (fold (actor_behind_delivery replies c) a delivered)
fold-waits replies c a [] is = is
fold-waits replies c a (bytes ∷ rest) is = fold-waits replies c (actor_behind_delivery replies c a bytes) rest
    (delivery-waits replies c a bytes is)

pub after-waits : (replies : Replies) (c : Configuration) (delivered : List (List ℕ)) → Waits c (actor_after replies c delivered)
unfolding actor_after
after-waits replies c delivered = fold-waits replies c (actor_at_start replies c) delivered
    (steps-wait replies c (first_actor c) (record { shape = refl; complete = λ stage lt. absurd (omega (arith, lt)) }))

-- ---- the law

stands-first : (c : Configuration) (a : Actor) → Waits c a → is_open a.ending ≡ true
    → first_incomplete_of a.log ≡ (if nat_lt a.stand.at (stage_count (shape_in c)) then Some a.stand.at else None)
stands-first c a is still = elim (cases_lt a.stand.at (stage_count (shape_in c))) [
  | inl lt ↦
      first_below-some (incomplete_stage a.log) (stage_count a.log.shape) a.stand.at a.stand.at (omega (arith, lt, count))
      (λ j below. complete-none a.log j (is.has.complete j below))
      (incomplete-some a.log a.stand.at (not-there (posts_in a.log a.stand.at) (sym (posts-within c a lt) ∙ is.waits still)))
      ∙ sym (cond-true (nat_lt a.stand.at (stage_count (shape_in c))) (Some a.stand.at) None
      (lt-ltb a.stand.at (stage_count (shape_in c)) lt))
  | inr le ↦
      first_below-none (incomplete_stage a.log) (stage_count a.log.shape)
      (λ j below. complete-none a.log j (is.has.complete j (omega (arith, le, count, below))))
      ∙ sym (cond-false (nat_lt a.stand.at (stage_count (shape_in c))) (Some a.stand.at) None
      (false_from_ne_true (nat_lt a.stand.at (stage_count (shape_in c)))
      (λ e. (let lt = ltb-true a.stand.at (stage_count (shape_in c)) e in omega (arith, le, lt)))))
]
  where
    count : stage_count a.log.shape ≡ stage_count (shape_in c)
    count = ap (λ (s : Shape). stage_count s) is.has.shape

pub open_stand_at_first : OpenStandAtFirst
open_stand_at_first replies c delivered still =
    let a : Actor = actor_after replies c delivered in
    let is = after-waits replies c delivered in
    record {
      first = stands-first c a is still;
      bits = ap (λ (s : Shape). bits_of (filter (is_missing a.log a.stand.at)
          (option_map_or (senders_in s) (kind_of_stage s a.stand.at) []))) (sym is.has.shape)
          ∙ bits-missing a.log a.stand.at;
    }
