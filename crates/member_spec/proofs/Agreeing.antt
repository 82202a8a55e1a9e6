-- A plain member agrees with the result of its deliveries, one delivery after the other.
use Rattle.std.proofs.Common.{◌≡◌, ◌≢◌, ◌⊎◌, ℕ, zero, suc, ◌+◌, ◌≤◌, Bool, true, false, List, [], ◌∷◌, length, take, Option, Some, None, ap, sym, ◌∙◌, refl, subst, arith, inl, inr, length-append}
use Rattle.std.specs.Prelude.{◌==◌, is_ok, is_some, option_and_then, option_map}
use Rattle.std.proofs.lemmas.Bool.{cases_Bool, cond-false, cond-true}
use Rattle.std.proofs.lemmas.List.{take-append-le, take_all}
use Rattle.std.proofs.lemmas.Option.{none-some}
use Rattle.wire_core.specs.Bytes.{IsBytes}
use Rattle.wire_core.proofs.AnswerLemmas.{first_some-some}
use Rattle.phase_message.specs.declared.post.Post.{Post}
use Rattle.phase_message.specs.declared.stage.Slot.{Slot}
use Rattle.phase_message.specs.Stages.{is_slot}
use Rattle.stage_log.specs.Table.{Log, filled, kept_in}
use Rattle.round_spec.specs.Embedded.{slot_named}
use Rattle.round_spec.specs.Say.{Configuration, shape_in}
use Rattle.round_spec.specs.Verdict.{Verdict}
use Rattle.round_spec.specs.Course.{Others, Stand, course_from, course_of, first_stand, is_open, next_stand, own_posts, settled_log}
use Rattle.round_spec.specs.Laws.{IsContained}
use Rattle.round_spec.specs.Deliveries.{with_last}
use Rattle.round_spec.specs.Result.{Heard, contradiction_with, ending_of, ending_verdict, fault_shown, first_posts, heard_of, least_ending, post_given, stand_after}
use Rattle.round_spec.proofs.Courses.{cases_Some, course-grows, course-next, course-stays}
use Rattle.round_spec.proofs.Reached.{behind-at, next-parts}
use Rattle.round_spec.proofs.Deliveries.{ending-none, first-posts-grow, least-ending-grows}
use Rattle.member_spec.specs.declared.mood.Mood.{Mood}
use Rattle.member_spec.specs.Actor.{Actor, actor_behind_repeat, actor_behind_delivery, actor_with_heard, actor_behind_steps, actor_behind_heard, actor_behind_fault}
use Rattle.member_spec.specs.Replies.{IsPlain, Replies}
use Rattle.member_spec.proofs.Hearing.{IsOfOther, closed-ending, contradiction-cases, contradiction-empty, contradiction-full, contradiction-same, fault-inside, fault-of, fault-outside, firsts-same, given-elsewhere, given-here, given-nothing, heard-other, last-of, none-open, open-ending}
use Rattle.member_spec.proofs.Kept.{log_with, place_with}
use Rattle.member_spec.proofs.Moves.{keeps-log}
use Rattle.member_spec.proofs.Places.{kept-place}
use Rattle.member_spec.proofs.Resting.{steps-rest, rests-log, rests-made, rests-stand}
use Rattle.member_spec.proofs.Steps.{Follows, Rests, SaysGrammar, mood_when}

-- nothing has ended, and the member rests
pub record IsOpenAfter (c : Configuration) (delivered : List (List ℕ)) (a : Actor) : Type 0 where
  pub none : least_ending c delivered ≡ None
  pub rests : Rests c (first_posts c delivered) a

-- the deliveries that end, and what the member holds of them
pub record HasEndedWith (c : Configuration) (part : List (List ℕ)) (verdict : Verdict) (a : Actor) : Type 0 where
  pub closed : is_open verdict ≡ false
  pub ending : a.ending ≡ verdict
  pub stand : a.stand ≡ stand_after c part
  pub log : a.log ≡ settled_log c (first_posts c part)
  pub made : a.made ≡ own_posts c (stand_after c part)

-- a first part has ended, and the member with it
pub record IsEndedAfter (c : Configuration) (delivered : List (List ℕ)) (a : Actor) : Type 0 where
  pub ending : ℕ × Verdict
  pub least : least_ending c delivered ≡ Some ending
  pub within : ending.0 ≤ length delivered
  pub has : HasEndedWith c (take ending.0 delivered) ending.1 a

-- a member agrees with its deliveries
unfoldable pub Agrees : Configuration → List (List ℕ) → Actor → Type 0
Agrees c delivered a = IsOpenAfter c delivered a ⊎ IsEndedAfter c delivered a

-- ---- ends that come with the last delivery

-- all of the deliveries end, by this verdict
ends-with-last : (c : Configuration) (delivered : List (List ℕ)) (bytes : List ℕ) (verdict : Verdict) (a : Actor)
    → least_ending c delivered ≡ None
    → ending_of c (with_last delivered bytes) ≡ Some verdict → HasEndedWith c (with_last delivered bytes) verdict a
    → IsEndedAfter c (with_last delivered bytes) a
ends-with-last c delivered bytes verdict a none ends has = record {
  ending = (length delivered + 1, verdict);
  least = (least-ending-grows c delivered bytes).comes none ∙ ap (option_map (λ v. (length delivered + 1, v))) ends;
  within = omega (arith, long);
  has = subst (λ (part : List (List ℕ)). HasEndedWith c part verdict a)
      (sym (take_all (length delivered + 1) (with_last delivered bytes) (omega (arith, long)))) has;
}
  where
    long : length (with_last delivered bytes) ≡ length delivered + 1
    long = length-append delivered (bytes ∷ [])

-- nothing ends
goes-on : (c : Configuration) (delivered : List (List ℕ)) (bytes : List ℕ) → least_ending c delivered ≡ None
    → ending_of c (with_last delivered bytes) ≡ None → least_ending c (with_last delivered bytes) ≡ None
goes-on c delivered bytes none ends = (least-ending-grows c delivered bytes).comes none
    ∙ ap (option_map (λ v. (length delivered + 1, v))) ends

-- a fault that the last string shows ends them
fault-ends : (c : Configuration) (delivered : List (List ℕ)) (bytes : List ℕ) (verdict : Verdict)
    → fault_shown c (first_posts c (with_last delivered bytes)) bytes ≡ Some verdict
    → ending_of c (with_last delivered bytes) ≡ Some verdict
unfolding ending_of
fault-ends c delivered bytes verdict e =
    first_some-some verdict _ (ending_verdict (stand_after c (with_last delivered bytes)).verdict ∷ [])
    (ap (option_and_then (fault_shown c (first_posts c (with_last delivered bytes)))) (last-of delivered bytes) ∙ e)

-- without one they end by their course
course-ends : (c : Configuration) (delivered : List (List ℕ)) (bytes : List ℕ)
    → fault_shown c (first_posts c (with_last delivered bytes)) bytes ≡ None
    → ending_of c (with_last delivered bytes) ≡ ending_verdict (stand_after c (with_last delivered bytes)).verdict
course-ends c delivered bytes e =
    ending-none c (with_last delivered bytes) (ap (option_and_then (fault_shown c (first_posts c (with_last delivered bytes))))
    (last-of delivered bytes) ∙ e)

-- ---- where it rests

-- a member that rests agrees, where no string ends the deliveries
pub rests-agrees : (c : Configuration) (delivered : List (List ℕ)) (bytes : List ℕ) (a : Actor) → least_ending c delivered ≡ None
    → fault_shown c (first_posts c (with_last delivered bytes)) bytes ≡ None
    → Rests c (first_posts c (with_last delivered bytes)) a → Agrees c (with_last delivered bytes) a
unfolding Agrees
rests-agrees c delivered bytes a none sound rests = elim (cases_Bool (is_open (stand_after c (with_last delivered bytes)).verdict)) [
  | inl still ↦ inl (record {
    none = goes-on c delivered bytes none (course-ends c delivered bytes sound ∙ open-ending _ still);
    rests =
        rests;
  })
  | inr ended ↦ inr (ends-with-last c delivered bytes (stand_after c (with_last delivered bytes)).verdict a none
      (course-ends c delivered bytes sound
      ∙ closed-ending _ ended) (record {
        closed = ended;
        ending = rests.follows.ending ∙ ap (λ (s : Stand). s.verdict) (rests-stand c (first_posts c (with_last delivered bytes)) a rests);
        stand = rests-stand c (first_posts c (with_last delivered bytes)) a rests;
        log = rests-log c (first_posts c (with_last delivered bytes)) a rests;
        made = rests-made c (first_posts c (with_last delivered bytes)) a rests;
      }))
]

-- a string that changes no first post and shows no fault
idle-agrees : (c : Configuration) (delivered : List (List ℕ)) (bytes : List ℕ) (a : Actor) → IsOpenAfter c delivered a
    → first_posts c (with_last delivered bytes) ≡ first_posts c delivered
    → fault_shown c (first_posts c (with_last delivered bytes)) bytes ≡ None → Agrees c (with_last delivered bytes) a
idle-agrees c delivered bytes a is same sound = rests-agrees c delivered bytes a is.none sound
    (subst (λ (o : Others). Rests c o a) (sym same) is.rests)

-- one that changes none and shows a fault
fault-agrees : (c : Configuration) (delivered : List (List ℕ)) (bytes : List ℕ) (a : Actor) (verdict : Verdict) → IsOpenAfter c delivered a
    → first_posts c (with_last delivered bytes) ≡ first_posts c delivered
    → fault_shown c (first_posts c (with_last delivered bytes)) bytes ≡ Some verdict → is_open verdict ≡ false
    → Agrees c (with_last delivered bytes) (record a { ending = verdict })
unfolding Agrees
fault-agrees c delivered bytes a verdict is same shown closed =
    inr (ends-with-last c delivered bytes verdict (record a { ending = verdict }) is.none (fault-ends c delivered bytes verdict shown)
    (record {
      closed = closed;
      ending = refl;
      stand = rests-stand c (first_posts c delivered) a is.rests ∙ ap (course_of c) (sym same);
      log = rests-log c (first_posts c delivered) a is.rests ∙ ap (settled_log c) (sym same);
      made = rests-made c (first_posts c delivered) a is.rests ∙ ap (λ (o : Others). own_posts c (course_of c o)) (sym same);
    }))

-- ---- one delivery

-- its log has just the first posts in the slots of others
kept-first : (c : Configuration) (others : Others) (a : Actor) (slot : Slot) → Rests c others a
    → is_slot (shape_in c) slot.stage slot.sender ≡ true
    → (slot.sender == c.number) ≡ false → kept_in a.log slot ≡ others slot
unfolding log_with
kept-first c others a slot rests speaks other =
    ap (λ (log : Log). kept_in log slot) rests.follows.log
    ∙ kept-place (shape_in c) (place_with c others a.stand rests.now) slot speaks
    ∙ cond-false (slot.sender == c.number) _ (others slot) other

open-heard : (replies : Replies) (c : Configuration) (a : Actor) (bytes : List ℕ) (o : Option Verdict) → is_open a.ending ≡ true
    → fault_shown c (kept_in a.log) bytes ≡ o
    → actor_behind_delivery replies c a bytes ≡ actor_behind_fault replies c a bytes o
unfolding actor_behind_delivery
open-heard replies c a bytes o still e = cond-true (is_open a.ending)
    (actor_behind_fault replies c a bytes (fault_shown c (kept_in a.log) bytes)) a still
    ∙ ap (actor_behind_fault replies c a bytes) e

rests-open : (c : Configuration) (delivered : List (List ℕ)) (a : Actor) → IsOpenAfter c delivered a → is_open a.ending ≡ true
rests-open c delivered a is =
    ap is_open (is.rests.follows.ending ∙ ap (λ (s : Stand). s.verdict) (rests-stand c (first_posts c delivered) a is.rests))
    ∙ none-open c delivered is.none

-- nothing is heard
hears-nothing : (replies : Replies) (c : Configuration) (delivered : List (List ℕ)) (bytes : List ℕ) (a : Actor) → IsOpenAfter c delivered a
    → heard_of c bytes ≡ None → Agrees c (with_last delivered bytes) (actor_behind_delivery replies c a bytes)
unfolding post_given
hears-nothing replies c delivered bytes a is nothing =
    subst (Agrees c (with_last delivered bytes)) (sym step) (idle-agrees c delivered bytes a is
    (firsts-same c delivered bytes (λ slot none. ap (option_and_then _) nothing))
    (fault-of c (first_posts c (with_last delivered bytes)) bytes None nothing))
  where
    step : actor_behind_delivery replies c a bytes ≡ a
    step = open-heard replies c a bytes None (rests-open c delivered a is) (fault-of c (kept_in a.log) bytes None nothing)
        ∙ ap (actor_behind_heard replies c a) nothing

-- a body outside the grammar is heard
hears-outside : (replies : Replies) (c : Configuration) (delivered : List (List ℕ)) (bytes : List ℕ) (a : Actor) (heard : Heard)
    → IsOpenAfter c delivered a → heard_of c bytes ≡ Some heard → is_ok heard.content ≡ false
    → Agrees c (with_last delivered bytes) (actor_behind_delivery replies c a bytes)
hears-outside replies c delivered bytes a heard is e outside =
    let fault = fault-outside c (kept_in a.log) bytes heard outside in
    let step : actor_behind_delivery replies c a bytes ≡ record a { ending = fault.0 } =
    open-heard replies c a bytes (Some fault.0) (rests-open c delivered a is)
    (fault-of c (kept_in a.log) bytes (Some heard) e ∙ fault.2 (kept_in a.log)) in
    subst (Agrees c (with_last delivered bytes)) (sym step) (fault-agrees c delivered bytes a fault.0 is
    (firsts-same c delivered bytes (λ slot none. given-nothing c slot bytes heard e outside))
    (fault-of c (first_posts c (with_last delivered bytes)) bytes (Some heard) e ∙ fault.2 (first_posts c (with_last delivered bytes)))
    fault.1)

-- a string for a slot that has a post gives no slot a new one
full-same : (c : Configuration) (delivered : List (List ℕ)) (bytes : List ℕ) (heard : Heard) (kept : Post) → heard_of c bytes ≡ Some heard
    → first_posts c delivered (slot_named heard.header) ≡ Some kept
    → first_posts c (with_last delivered bytes) ≡ first_posts c delivered
full-same c delivered bytes heard kept e first =
    firsts-same c delivered bytes (λ slot none. given-elsewhere c slot bytes heard e
    (λ same. none-some kept (sym none ∙ ap (first_posts c delivered) same ∙ first)))

-- a post is heard for a slot that has one
hears-full : (replies : Replies) (c : Configuration) (delivered : List (List ℕ)) (bytes : List ℕ) (a : Actor) (heard : Heard) (kept : Post)
    → IsOpenAfter c delivered a → IsOfOther c heard
    → heard_of c bytes ≡ Some heard → is_ok heard.content ≡ true → first_posts c delivered (slot_named heard.header) ≡ Some kept
    → Agrees c (with_last delivered bytes) (actor_behind_delivery replies c a bytes)
hears-full replies c delivered bytes a heard kept is other e reads first = elim (contradiction-cases c bytes heard kept) [
  | inl same ↦ subst (Agrees c (with_last delivered bytes)) (sym (step None same.1 ∙ ap (actor_behind_heard replies c a) e
      ∙ cond-true (is_some (kept_in a.log (slot_named heard.header))) a _ (ap is_some there)))
      (idle-agrees c delivered bytes a is posts (shown (first_posts c (with_last delivered bytes)) here ∙ same.1))
  | inr fault ↦ subst (Agrees c (with_last delivered bytes)) (sym (step (Some fault.0) fault.2))
      (fault-agrees c delivered bytes a fault.0 is posts (shown (first_posts c (with_last delivered bytes)) here ∙ fault.2) fault.1)
]
  where
    posts : first_posts c (with_last delivered bytes) ≡ first_posts c delivered
    posts = full-same c delivered bytes heard kept e first

    there : kept_in a.log (slot_named heard.header) ≡ Some kept
    there = kept-first c (first_posts c delivered) a (slot_named heard.header) is.rests other.speaks other.other ∙ first

    here : first_posts c (with_last delivered bytes) (slot_named heard.header) ≡ Some kept
    here = ap (λ (o : Others). o (slot_named heard.header)) posts ∙ first

    shown : (firsts : Others) → firsts (slot_named heard.header) ≡ Some kept
        → fault_shown c firsts bytes ≡ contradiction_with c bytes heard kept
    shown firsts has = fault-of c firsts bytes (Some heard) e ∙ fault-inside c firsts bytes heard reads
        ∙ contradiction-full c firsts bytes heard kept has

    step : (o : Option Verdict) → contradiction_with c bytes heard kept ≡ o
        → actor_behind_delivery replies c a bytes ≡ actor_behind_fault replies c a bytes o
    step o shows = open-heard replies c a bytes o (rests-open c delivered a is) (shown (kept_in a.log) there ∙ shows)

-- a plain member has put nothing off
repeat-plain : (replies : Replies) (c : Configuration) (a : Actor) (mood : Mood) (now : Bool) → mood ≡ mood_when now
    → actor_behind_repeat replies c a mood ≡ a
repeat-plain replies c a mood true e = ap (actor_behind_repeat replies c a) e
repeat-plain replies c a mood false e = ap (actor_behind_repeat replies c a) e

course-zero : (c : Configuration) (others : Others) (stand : Stand) → course_from c others 0 stand ≡ stand
unfolding course_from
course-zero c others stand = refl

-- a course of so many stages comes at most so far
at-most : (c : Configuration) (others : Others) (stages : ℕ) (stand : Stand) → (course_from c others stages stand).at ≤ stand.at + stages
at-most c others zero stand = (let same = ap (λ (s : Stand). s.at) (course-zero c others stand) in omega (arith, same))
at-most c others (suc stages) stand = elim (cases_Some (next_stand c others stand)) [
  | inl none ↦ (let same = ap (λ (s : Stand). s.at) (course-stays c others (suc stages) stand none) in omega (arith, same))
  | inr next ↦
      let parts = next-parts c others stand next.0 next.1 in
      let step : next.0.at ≡ stand.at + 1 = sym (ap (λ (s : Stand). s.at) parts.1.2) ∙ behind-at c stand parts.1.0 in
      let here = ap (λ (s : Stand). s.at) (course-next c others stages stand next.0 next.1) in
      omega (arith, at-most c others stages next.0, step, here)
]

-- with the new post it is where it was, in the course with that post
heard-follows : (c : Configuration) (others more : Others) (a : Actor) (heard : Heard) → Rests c others a → IsOfOther c heard
    → IsContained others more → more (slot_named heard.header) ≡ Some heard.post
    → ((slot : Slot) → slot ≢ slot_named heard.header → others slot ≡ more slot)
    → (stages : ℕ) × ((now : Bool) × Follows c more now stages (actor_with_heard a heard))
heard-follows c others more a heard rests other contained here same =
    let f = rests.follows in
    let through = course-grows c others more rests.stages first_stand contained in
    let at : a.stand ≡ course_from c more through.count first_stand =
    f.stand ∙ sym (course-zero c more (course_from c others rests.stages first_stand)) ∙ sym (through.goes_on 0)
    ∙ (let none : through.count + 0 ≡ through.count = omega arith in ap (λ (k : ℕ). course_from c more k first_stand) none) in (
      through.count,
      (
        rests.now,
        record {
          stand = at;
          at = (let most = at-most c more through.count first_stand in let count = through.most in let was = f.at in let is_at = ap
              (λ (s : Stand). s.at) at in omega (arith, is_at));
          log = ap (λ (log : Log). filled log (slot_named heard.header) heard.post) f.log
              ∙ keeps-log c others more a.stand rests.now (slot_named heard.header) heard.post other.speaks other.other here same;
          made = f.made;
          mood = f.mood;
          ending = f.ending;
          still = f.still;
        },
      ),
    )

-- a post is heard for an empty slot
hears-new : (replies : Replies) (c : Configuration) (delivered : List (List ℕ)) (bytes : List ℕ) (a : Actor) (heard : Heard)
    → IsPlain replies
    → SaysGrammar c (first_posts c (with_last delivered bytes))
    → IsOpenAfter c delivered a → IsOfOther c heard → heard_of c bytes ≡ Some heard → is_ok heard.content ≡ true
    → first_posts c delivered (slot_named heard.header) ≡ None
    → Agrees c (with_last delivered bytes) (actor_behind_delivery replies c a bytes)
hears-new replies c delivered bytes a heard plain grammar is other e reads empty =
    subst (Agrees c (with_last delivered bytes)) (sym step) (rests-agrees c delivered bytes
    (actor_behind_steps replies c (actor_with_heard a heard)) is.none sound
    (steps-rest replies c more follows.1.0 follows.0 (actor_with_heard a heard) plain grammar follows.1.1))
  where
    slot : Slot
    slot = slot_named heard.header

    more : Others
    more = first_posts c (with_last delivered bytes)

    here : more slot ≡ Some heard.post
    here = (first-posts-grow c delivered bytes slot).comes empty ∙ given-here c bytes heard e reads

    same : (other : Slot) → other ≢ slot → first_posts c delivered other ≡ more other
    same other apart = by_first (first_posts c delivered other) refl
      where
        by_first : (o : Option Post) → first_posts c delivered other ≡ o → first_posts c delivered other ≡ more other
        by_first (Some post) is = is ∙ sym ((first-posts-grow c delivered bytes other).stays post is)
        by_first None is = is ∙ sym ((first-posts-grow c delivered bytes other).comes is ∙ given-elsewhere c other bytes heard e apart)

    follows : (stages : ℕ) × ((now : Bool) × Follows c more now stages (actor_with_heard a heard))
    follows = heard-follows c (first_posts c delivered) more a heard is.rests other
        (λ s post at. (first-posts-grow c delivered bytes s).stays post at) here same

    nothing : kept_in a.log slot ≡ None
    nothing = kept-first c (first_posts c delivered) a slot is.rests other.speaks other.other ∙ empty

    sound : fault_shown c more bytes ≡ None
    sound = fault-of c more bytes (Some heard) e ∙ fault-inside c more bytes heard reads
        ∙ contradiction-full c more bytes heard heard.post here
        ∙ contradiction-same c bytes heard heard.post refl

    quiet : fault_shown c (kept_in a.log) bytes ≡ None
    quiet = fault-of c (kept_in a.log) bytes (Some heard) e ∙ fault-inside c (kept_in a.log) bytes heard reads
        ∙ contradiction-empty c (kept_in a.log) bytes heard nothing

    step : actor_behind_delivery replies c a bytes ≡ actor_behind_steps replies c (actor_with_heard a heard)
    step =
        open-heard replies c a bytes None (rests-open c delivered a is) quiet ∙ ap (actor_behind_heard replies c a) e
        ∙ cond-false (is_some (kept_in a.log slot)) a (actor_behind_steps replies c
        (actor_behind_repeat replies c (actor_with_heard a heard) a.mood)) (ap is_some nothing)
        ∙ ap (actor_behind_steps replies c) (repeat-plain replies c (actor_with_heard a heard) a.mood is.rests.now is.rests.follows.mood)

-- ---- after the end

-- nothing happens any more
ended-agrees : (replies : Replies) (c : Configuration) (delivered : List (List ℕ)) (bytes : List ℕ) (a : Actor) → IsEndedAfter c delivered a
    → Agrees c (with_last delivered bytes) (actor_behind_delivery replies c a bytes)
unfolding Agrees actor_behind_delivery
ended-agrees replies c delivered bytes a is =
    let within = is.within in
    subst (Agrees c (with_last delivered bytes)) (sym (cond-false (is_open a.ending)
    (actor_behind_fault replies c a bytes (fault_shown c (kept_in a.log) bytes)) a (ap is_open is.has.ending ∙ is.has.closed)))
    (inr (record {
      ending = is.ending;
      least = (least-ending-grows c delivered bytes).stays is.ending is.least;
      within = omega (arith, length-append delivered (bytes ∷ []));
      has = subst (λ (part : List (List ℕ)). HasEndedWith c part is.ending.1 a)
          (sym (take-append-le is.ending.0 delivered (bytes ∷ []) is.within)) is.has;
    }))

-- ---- every delivery

pub delivery-keeps : (replies : Replies) (c : Configuration) (delivered : List (List ℕ)) (bytes : List ℕ) (a : Actor) → IsPlain replies
    → IsBytes bytes → SaysGrammar c (first_posts c (with_last delivered bytes))
    → Agrees c delivered a → Agrees c (with_last delivered bytes) (actor_behind_delivery replies c a bytes)
unfolding Agrees
delivery-keeps replies c delivered bytes a plain are grammar (inr is) = ended-agrees replies c delivered bytes a is
delivery-keeps replies c delivered bytes a plain are grammar (inl is) = elim (cases_Some (heard_of c bytes)) [
  | inl nothing ↦ hears-nothing replies c delivered bytes a is nothing
  | inr heard ↦ (let other = heard-other c bytes heard.0 are heard.1 in elim (cases_Bool (is_ok heard.0.content)) [
    | inr outside ↦ hears-outside replies c delivered bytes a heard.0 is heard.1 outside
    | inl reads ↦ elim (cases_Some (first_posts c delivered (slot_named heard.0.header))) [
      | inl empty ↦ hears-new replies c delivered bytes a heard.0 plain grammar is other heard.1 reads empty
      | inr kept ↦ hears-full replies c delivered bytes a heard.0 kept.0 is other heard.1 reads kept.1
    ]
  ])
]
