-- What the stands of a course have in common.
use Rattle.std.proofs.Common.{◌≡◌, ◌⊎◌, ℕ, zero, suc, ◌+◌, ◌-◌, ◌<◌, ◌≤◌, true, List, ◌++◌, length, get_or, map, take, Option, Some, None, ap, sym, ◌∙◌, refl, subst, arith, inl, inr, length-append}
use Rattle.std.specs.Prelude.{◌==◌, option_map, option_and_then, if◌then◌else◌}
use Rattle.std.specs.List.{slice_get}
use Rattle.std.proofs.lemmas.Bool.{cases_Bool, cond-true, cond-false, cases_lt}
use Rattle.std.proofs.lemmas.List.{length-map, take-append-le, take_all}
use Rattle.std.proofs.lemmas.Option.{none-some, slice_get-map, slice_get-get_or}
use Rattle.phase_message.specs.declared.post.Post.{Post}
use Rattle.phase_message.specs.declared.stage.Slot.{Slot}
use Rattle.phase_message.specs.declared.stage.StageKind.{StageKind}
use Rattle.phase_message.specs.Slots.{senders_in, senders_of, slot_at, slot_number, slots_before, stage_count}
use Rattle.phase_message.specs.Stages.{is_slot, kind_of_stage}
use Rattle.phase_message.proofs.Counts.{slots_next}
use Rattle.phase_message.proofs.SlotLists.{length-senders_in, slot_at-number, slot_at-place, slot_number-within, slots_before-rises, stage-past}
use Rattle.phase_message.proofs.Table.{slice_get_left, slice_get_right}
use Rattle.stage_log.proofs.Pasts.{all_some-is, option_map-some}
use Rattle.round_spec.specs.Say.{Configuration, own_post, shape_in}
use Rattle.round_spec.specs.Verdict.{Goes, Done, Convicts, Verdict, verdict_of}
use Rattle.round_spec.specs.Course.{Others, Stand, closing_of, course_from, first_stand, is_open, next_stand, post_of, posts_of_kind, stage_filled, stand_behind}
use Rattle.round_spec.specs.Reached.{IsReached, StandsAreReached, post_due}
use Rattle.round_spec.proofs.Courses.{cases_Some, course-next, course-stays}

-- ---- a stage that is filled

-- what fills a stage: the posts of its senders, in their order
record Fills (c : Configuration) (others : Others) (stand : Stand) (posts : List Post) : Type 0 where
  pub kind : StageKind
  pub is : kind_of_stage (shape_in c) stand.at ≡ Some kind
  pub posts_are : map (post_of c others stand) (senders_in (shape_in c) kind) ≡ map (λ post. Some post) posts

filled-parts : (c : Configuration) (others : Others) (stand : Stand) (posts : List Post) → stage_filled c others stand ≡ Some posts
    → Fills c others stand posts
unfolding stage_filled
filled-parts c others stand posts e = by_kind (kind_of_stage (shape_in c) stand.at) refl e
  where
    by_kind : (o : Option StageKind) → kind_of_stage (shape_in c) stand.at ≡ o
        → option_and_then (posts_of_kind c others stand) o ≡ Some posts → Fills c others stand posts
    by_kind None is e = absurd (none-some posts e)
    by_kind (Some kind) is e = record {
      kind = kind;
      is = is;
      posts_are = all_some-is
          (map (post_of c others stand) (senders_in (shape_in c) kind)) posts e;
    }

-- as many posts as senders
fills-count : (c : Configuration) (others : Others) (stand : Stand) (posts : List Post) (fills : Fills c others stand posts)
    → length posts ≡ senders_of (shape_in c) fills.kind
fills-count c others stand posts fills =
    sym (length-map posts (λ (post : Post). Some post)) ∙ sym (ap length fills.posts_are)
    ∙ length-map (senders_in (shape_in c) fills.kind) (post_of c others stand) ∙ length-senders_in (shape_in c) fills.kind

-- a sender of the stage, at its place
sender-place : (c : Configuration) (stage sender : ℕ) (kind : StageKind) → kind_of_stage (shape_in c) stage ≡ Some kind
    → is_slot (shape_in c) stage sender ≡ true
    → (place : ℕ) × (slot_number (shape_in c) stage sender ≡ slots_before (shape_in c) stage + place)
    × (slice_get (senders_in (shape_in c) kind) place ≡ Some sender)
sender-place c stage sender kind is speaks =
    let shape = shape_in c in
    let within = slot_number-within shape stage sender speaks in
    let first = within.0 in
    let last = within.1 in
    let next = slots_next shape stage kind is in
    let place : ℕ = slot_number shape stage sender - slots_before shape stage in
    let number : slot_number shape stage sender ≡ slots_before shape stage + place = omega arith in
    let few : place < length (senders_in shape kind) = omega (arith, next, length-senders_in shape kind) in
    let other = slice_get-get_or (senders_in shape kind) place 0 few in
    let there = slot_at-place shape stage place (get_or (senders_in shape kind) place 0) kind is other in
    let here = slot_at-number shape stage sender speaks in
    let same : get_or (senders_in shape kind) place 0 ≡ sender = same-sender _ _ (sym there ∙ ap (slot_at shape) (sym number) ∙ here) in
    (place, number, other ∙ ap (λ (s : ℕ). Some s) same)
  where
    same-sender : (a b : ℕ) → (let told : ℕ → Option Slot = λ s. Some (record { stage = stage; sender = s }) in told a ≡ told b) → a ≡ b
    same-sender a b e = sender_in _ _ e
      where
        sender_in : (a b : Slot) → (let told : Slot → Option Slot = λ s. Some s in told a ≡ told b) → a.sender ≡ b.sender
        sender_in a b e = let same : a ≡ b = cc in ap (λ (s : Slot). s.sender) same

-- the post of a sender among those that fill the stage
filled-post : (c : Configuration) (others : Others) (stand : Stand) (posts : List Post) (place sender : ℕ)
    (fills : Fills c others stand posts)
    → slice_get (senders_in (shape_in c) fills.kind) place ≡ Some sender → slice_get posts place ≡ post_of c others stand sender
filled-post c others stand posts place sender fills at = by_post (slice_get posts place) refl
  where
    both : option_map (λ (post : Post). Some post) (slice_get posts place) ≡ Some (post_of c others stand sender)
    both = sym (slice_get-map (λ (post : Post). Some post) posts place)
        ∙ sym (ap (λ (os : List (Option Post)). slice_get os place) fills.posts_are)
        ∙ slice_get-map (post_of c others stand) (senders_in (shape_in c) fills.kind) place ∙ ap (option_map (post_of c others stand)) at

    told_same : (x y : Option Post) → (let told : Option Post → Option (Option Post) = λ z. Some z in told x ≡ told y) → x ≡ y
    told_same x y e = cc

    by_post : (o : Option Post) → slice_get posts place ≡ o → slice_get posts place ≡ post_of c others stand sender
    by_post None e = absurd (none-some (post_of c others stand sender) (sym (ap (option_map (λ (post : Post). Some post)) e) ∙ both))
    by_post (Some post) e = e ∙ told_same (Some post) (post_of c others stand sender)
        (sym (ap (option_map (λ (post : Post). Some post)) e) ∙ both)

-- ---- one stage more

pub next-parts : (c : Configuration) (others : Others) (stand next : Stand) → next_stand c others stand ≡ Some next
    → (is_open stand.verdict ≡ true) × ((posts : List Post) × (stage_filled c others stand ≡ Some posts)
    × (stand_behind c stand posts ≡ next))
unfolding next_stand
next-parts c others stand next e = elim (cases_Bool (is_open stand.verdict)) [
  | inl still ↦ (
    still,
    option_map-some (stand_behind c stand) (stage_filled c others stand) next
        (sym (cond-true (is_open stand.verdict) (option_map (stand_behind c stand) (stage_filled c others stand)) None still) ∙ e),
  )
  | inr ended ↦ absurd (none-some next (sym (cond-false (is_open stand.verdict)
      (option_map (stand_behind c stand) (stage_filled c others stand)) None ended) ∙ e))
]

-- one stage is passed
pub behind-at : (c : Configuration) (stand : Stand) (posts : List Post) → (stand_behind c stand posts).at ≡ stand.at + 1
unfolding stand_behind
behind-at c stand posts = refl

pub open-goes : (verdict : Verdict) → is_open verdict ≡ true → verdict ≡ Goes
open-goes Goes e = refl
open-goes Done e = absurd cc
open-goes (Convicts t) e = absurd cc

-- what is due in a slot of a longer past
due-longer : (c : Configuration) (others : Others) (past posts : List Post) (stage sender : ℕ)
    → slots_before (shape_in c) stage ≤ length past
    → post_due c others past stage sender ≡ post_due c others (past ++ posts) stage sender
due-longer c others past posts stage sender long =
    ap (λ (front : List Post). if sender == c.number then Some (own_post c front stage) else others
    (record { stage = stage; sender = sender }))
    (sym (take-append-le (slots_before (shape_in c) stage) past posts long))

-- what is due in the stage that is being filled
due-now : (c : Configuration) (others : Others) (stand : Stand) (posts : List Post) (sender : ℕ)
    → length stand.past ≡ slots_before (shape_in c) stand.at
    → post_of c others stand sender ≡ post_due c others (stand.past ++ posts) stand.at sender
due-now c others stand posts sender whole =
    let n : ℕ = slots_before (shape_in c) stand.at in
    ap (λ (front : List Post). if sender == c.number then Some (own_post c front stand.at) else others
    (record { stage = stand.at; sender = sender }))
    (sym (take-append-le n stand.past posts (omega (arith, whole)) ∙ take_all n stand.past (omega (arith, whole))))

behind-reached : (c : Configuration) (others : Others) (stand : Stand) (posts : List Post) → is_open stand.verdict ≡ true
    → stage_filled c others stand ≡ Some posts
    → IsReached c others stand → IsReached c others (stand_behind c stand posts)
unfolding stand_behind
behind-reached c others stand posts still filled is = record {
  within = within;
  whole = long;
  posts = λ stage sender speaks lt. each stage sender speaks lt (cases_lt stage stand.at);
  goes = λ stage lt. gone stage lt (cases_lt (stage + 1) stand.at);
  last = λ stage e. (let same : stage ≡ stand.at = omega (arith, e) in ap (λ (s : ℕ). verdict_of (closing_of c (stand.past ++ posts) s))
      same);
  first = λ e. absurd (omega (arith, e));
}
  where
    fills : Fills c others stand posts
    fills = filled-parts c others stand posts filled

    next : slots_before (shape_in c) (stand.at + 1) ≡ slots_before (shape_in c) stand.at + senders_of (shape_in c) fills.kind
    next = slots_next (shape_in c) stand.at fills.kind fills.is

    long : length (stand.past ++ posts) ≡ slots_before (shape_in c) (stand.at + 1)
    long = omega (arith, length-append stand.past posts, is.whole, fills-count c others stand posts fills, next)

    within : stand.at + 1 ≤ stage_count (shape_in c)
    within = elim (cases_lt stand.at (stage_count (shape_in c))) [
      | inl lt ↦ omega arith
      | inr le ↦ absurd (none-some fills.kind (sym (stage-past (shape_in c) stand.at le) ∙ fills.is))
    ]

    each : (stage sender : ℕ) → is_slot (shape_in c) stage sender ≡ true → stage < stand.at + 1 → (stage < stand.at) ⊎ (stand.at ≤ stage)
        → slice_get (stand.past ++ posts) (slot_number (shape_in c) stage sender) ≡ post_due c others (stand.past ++ posts) stage sender
    each stage sender speaks lt (inl earlier) =
        let number = slot_number-within (shape_in c) stage sender speaks in
        let first = number.0 in
        let after = number.1 in
        let rises = slots_before-rises (shape_in c) (stage + 1) stand.at (omega arith) in
        slice_get_left stand.past posts (slot_number (shape_in c) stage sender) (omega (arith, is.whole))
        ∙ is.posts stage sender speaks earlier
        ∙ due-longer c others stand.past posts stage sender (omega (arith, is.whole))
    each stage sender speaks lt (inr now) =
        let same : stage ≡ stand.at = omega arith in
        subst (λ (s : ℕ). slice_get (stand.past ++ posts) (slot_number (shape_in c) s sender) ≡ post_due c others (stand.past ++ posts) s
        sender) (sym same)
        (here sender (sender-place c stand.at sender fills.kind fills.is
        (sym (ap (λ (s : ℕ). is_slot (shape_in c) s sender) same) ∙ speaks)))
      where
        here : (sender : ℕ) → (place : ℕ) × (slot_number (shape_in c) stand.at sender ≡ slots_before (shape_in c) stand.at + place)
            × (slice_get (senders_in (shape_in c) fills.kind) place ≡ Some sender)
            → slice_get (stand.past ++ posts) (slot_number (shape_in c) stand.at sender) ≡ post_due c others (stand.past ++ posts) stand.at
            sender
        here sender at =
            let number : slot_number (shape_in c) stand.at sender ≡ length stand.past + at.0 = at.1
            ∙ ap (λ (k : ℕ). k + at.0) (sym is.whole) in
            ap (slice_get (stand.past ++ posts)) number
            ∙ slice_get_right stand.past posts at.0
            ∙ filled-post c others stand posts at.0 sender fills at.2
            ∙ due-now c others stand posts sender is.whole

    gone : (stage : ℕ) → stage + 1 < stand.at + 1 → (stage + 1 < stand.at) ⊎ (stand.at ≤ stage + 1)
        → verdict_of (closing_of c (take (slots_before (shape_in c) (stage + 1)) (stand.past ++ posts)) stage) ≡ Goes
    gone stage lt (inl earlier) =
        let rises = slots_before-rises (shape_in c) (stage + 1) stand.at (omega arith) in
        ap (λ (front : List Post). verdict_of (closing_of c front stage))
        (take-append-le (slots_before (shape_in c) (stage + 1)) stand.past posts (omega (arith, is.whole)))
        ∙ is.goes stage earlier
    gone stage lt (inr now) =
        let same : stage + 1 ≡ stand.at = omega arith in
        let n : slots_before (shape_in c) (stage + 1) ≡ length stand.past = ap (λ (s : ℕ). slots_before (shape_in c) s) same
        ∙ sym is.whole in
        ap (λ (front : List Post). verdict_of (closing_of c front stage))
        (take-append-le (slots_before (shape_in c) (stage + 1)) stand.past posts (omega (arith, n))
        ∙ take_all (slots_before (shape_in c) (stage + 1)) stand.past (omega (arith, n)))
        ∙ is.last stage same ∙ open-goes stand.verdict still

first-reached : (c : Configuration) (others : Others) → IsReached c others first_stand
first-reached c others = record {
  within = omega arith;
  whole = refl;
  posts = λ stage sender speaks lt. absurd (omega (arith, lt));
  goes = λ stage lt. absurd (omega (arith, lt));
  last = λ stage e. absurd (omega (arith, e));
  first = λ e. refl;
}

pub next-reached : (c : Configuration) (others : Others) (stand next : Stand) → next_stand c others stand ≡ Some next
    → IsReached c others stand → IsReached c others next
next-reached c others stand next e is =
    let parts = next-parts c others stand next e in
    subst (IsReached c others) parts.1.2 (behind-reached c others stand parts.1.0 parts.0 parts.1.1 is)

pub course-reached : (c : Configuration) (others : Others) (stages : ℕ) (stand : Stand) → IsReached c others stand
    → IsReached c others (course_from c others stages stand)
unfolding course_from
course-reached c others zero stand is = is
course-reached c others (suc stages) stand is = elim (cases_Some (next_stand c others stand)) [
  | inl none ↦ subst (IsReached c others) (sym (course-stays c others (suc stages) stand none)) is
  | inr next ↦ subst (IsReached c others) (sym (course-next c others stages stand next.0 next.1))
      (course-reached c others stages next.0 (next-reached c others stand next.0 next.1 is))
]

pub stands_are_reached : StandsAreReached
stands_are_reached c others stages = course-reached c others stages first_stand (first-reached c others)
