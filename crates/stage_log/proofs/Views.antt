-- Views of what was said, and which slots are not right.
use Rattle.std.proofs.Common.{◌≡◌, ℕ, zero, suc, ◌+◌, ◌-◌, ◌<◌, ◌≤◌, true, false, List, [], ◌∷◌, length, take, drop, Option, Some, None, refl, ap, sym, ◌∙◌, subst, arith, inl, inr, add-one, length-drop}
use Rattle.std.specs.Prelude.{option_and_then}
use Rattle.std.specs.List.{slice_get, slice_range}
use Rattle.std.specs.Option.{option_map}
use Rattle.std.proofs.lemmas.Bool.{cases_lt, cases_Bool, cond-true, cond-false}
use Rattle.std.proofs.lemmas.List.{length-take-le}
use Rattle.std.proofs.lemmas.Option.{slice_get-map}
use Rattle.wire_core.specs.declared.tag.Tag.TheVariants.{View}
use Rattle.wire_core.specs.Hash.{hash_of}
use Rattle.wire_core.specs.Answers.{first_below}
use Rattle.wire_core.proofs.AnswerLemmas.{first_below-some, first_below-each, first_below-found}
use Rattle.phase_message.specs.declared.post.Post.{Post}
use Rattle.phase_message.specs.declared.stage.Slot.{Slot}
use Rattle.phase_message.specs.Shape.{Shape}
use Rattle.phase_message.specs.Slots.{slot_at, slot_number, slots_before}
use Rattle.phase_message.proofs.SlotLists.{slot_at-is, slots_before-rises}
use Rattle.stage_log.specs.Table.{Log, IsLog, posts_in}
use Rattle.stage_log.specs.Log.{before, contents_of, contents_at, contents_in, content_in, first_wrong, is_carried, is_right, unlike_at, view_of, wrong_at, wrong_slot}
use Rattle.stage_log.proofs.Entries.{before-within}
use Rattle.stage_log.proofs.Pasts.{posts_in-past, contents_in-past}
use Rattle.stage_log.proofs.SlotPlaces.{slot_at-sender}

-- ---- from a stage to the next

pub view_of-next : (shape : Shape) (past : List (List ℕ)) (stage : ℕ)
    → view_of shape past (stage + 1) ≡ hash_of View (view_of shape past stage ∷ contents_at shape past stage)
view_of-next shape past stage = ap (view_of shape past) (add-one stage)

-- the view is carried on over the places of a stage
pub next_view : (log : Log) (stage later : ℕ) (posts : List Post) → stage < later → before log later ≡ Some posts
    → hash_of View (view_of log.shape (contents_of posts) stage ∷ contents_in (posts_in log stage)) ≡ view_of log.shape (contents_of posts)
    (stage + 1)
next_view log stage later posts lt e =
    ap (λ (t : List (List ℕ)). hash_of View (view_of log.shape (contents_of posts) stage ∷ t)) (contents_in-past log stage later posts lt e)
    ∙ sym (view_of-next log.shape (contents_of posts) stage)

-- ---- the places of a stage

pub length-posts_in : (log : Log) (stage : ℕ) → IsLog log → length (posts_in log stage) ≡ slots_before log.shape (stage + 1) - slots_before
    log.shape stage
length-posts_in log stage is =
    let a : ℕ = slots_before log.shape stage in
    let b : ℕ = slots_before log.shape (stage + 1) in
    length-take-le (b - a) (drop a log.posts) (omega (arith, length-drop a log.posts, before-within log (stage + 1) is))

slice_get-drop : {A : Type 0} (xs : List A) (a i : ℕ) → slice_get (drop a xs) i ≡ slice_get xs (a + i)
slice_get-drop xs zero i = let e : i ≡ zero + i = omega arith in ap (slice_get xs) e
slice_get-drop [] (suc a) i = refl
slice_get-drop (x ∷ xs) (suc a) i = let e : suc (a + i) ≡ suc a + i = omega arith in slice_get-drop xs a i ∙ ap (slice_get (x ∷ xs)) e

pub slice_get-take : {A : Type 0} (xs : List A) (n i : ℕ) → i < n → slice_get (take n xs) i ≡ slice_get xs i
slice_get-take xs zero i lt = absurd (omega arith)
slice_get-take [] (suc n) i lt = refl
slice_get-take (x ∷ xs) (suc n) zero lt = refl
slice_get-take (x ∷ xs) (suc n) (suc i) lt = slice_get-take xs n i (omega arith)

slice_get-slice_range : {A : Type 0} (xs : List A) (a b i : ℕ) → a + i < b → slice_get (slice_range xs a b) i ≡ slice_get xs (a + i)
slice_get-slice_range xs a b i lt = slice_get-take (drop a xs) (b - a) i (omega arith) ∙ slice_get-drop xs a i

some_content : (o : Option Post) → option_and_then content_in (option_map (λ post. Some post) o) ≡ option_map (λ post. post.content) o
some_content None = refl
some_content (Some post) = refl

-- the content at a place of a stage is that of the past at its number
place-content : (log : Log) (stage later : ℕ) (posts : List Post) (place : ℕ) → stage < later → before log later ≡ Some posts
    → slots_before log.shape stage + place < slots_before log.shape (stage + 1)
    → option_and_then content_in (slice_get (posts_in log stage) place) ≡ slice_get (contents_of posts)
    (slots_before log.shape stage + place)
place-content log stage later posts place lt e within =
    let a : ℕ = slots_before log.shape stage in
    let b : ℕ = slots_before log.shape (stage + 1) in
    ap (λ (t : List (Option Post)). option_and_then content_in (slice_get t place)) (posts_in-past log stage later posts lt e)
    ∙ ap (option_and_then content_in) (slice_get-map (λ post. Some post) (slice_range posts a b) place)
    ∙ some_content (slice_get (slice_range posts a b) place)
    ∙ ap (option_map (λ post. post.content)) (slice_get-slice_range posts a b place within)
    ∙ sym (slice_get-map (λ post. post.content) posts (a + place))

-- ---- slots that are not right

-- whether the slot of a place is right: its content carries the view of the stage
place-right : (log : Log) (stage later : ℕ) (posts : List Post) (place : ℕ) (slot : Slot) → stage < later → before log later ≡ Some posts
    → slots_before log.shape stage + place < slots_before log.shape (stage + 1)
    → slot_at log.shape (slots_before log.shape stage + place) ≡ Some slot
    → is_right log.shape (contents_of posts) slot ≡ is_carried (view_of log.shape (contents_of posts) stage)
    (option_and_then content_in (slice_get (posts_in log stage) place))
place-right log stage later posts place slot lt e within at =
    let past : List (List ℕ) = contents_of posts in
    let found = slot_at-sender log.shape stage place within in
    let stage_is : slot.stage ≡ stage = stage-same slot (slot_at log.shape (slots_before log.shape stage + place)) _ stage at found in
    let number_is = (slot_at-is log.shape (slots_before log.shape stage + place) slot at).1 in
    ap (λ (t : ℕ). is_carried (view_of log.shape past t) (slice_get past (slot_number log.shape slot.stage slot.sender))) stage_is
    ∙ ap (λ (k : ℕ). is_carried (view_of log.shape past stage) (slice_get past k)) number_is
    ∙ ap (is_carried (view_of log.shape past stage)) (sym (place-content log stage later posts place lt e within))
  where
    stage-same : (slot : Slot) (o : Option Slot) (sender stage : ℕ) → o ≡ Some slot → o ≡ Some (record { stage = stage; sender = sender })
        → slot.stage ≡ stage
    stage-same slot o sender stage e e' = let same : slot ≡ record { stage = stage; sender = sender } = cc in ap (λ (s : Slot). s.stage)
        same

unlike-none : (view : List ℕ) (places : List (Option Post)) (place : ℕ) → unlike_at view places place ≡ None
    → is_carried view (option_and_then content_in (slice_get places place)) ≡ true
unlike-none view places place e =
    elim (cases_Bool (is_carried view (option_and_then content_in (slice_get places place)))) [
      | inl passes ↦ passes
      | inr fails ↦ absurd (let some = cond-false (is_carried view (option_and_then content_in (slice_get places place))) None (Some place)
          fails in cc)
    ]

unlike-some : (view : List ℕ) (places : List (Option Post)) (place x : ℕ) → unlike_at view places place ≡ Some x
    → (is_carried view (option_and_then content_in (slice_get places place)) ≡ false) × (place ≡ x)
unlike-some view places place x e =
    elim (cases_Bool (is_carried view (option_and_then content_in (slice_get places place)))) [
      | inl passes ↦ absurd (let none = cond-true (is_carried view (option_and_then content_in (slice_get places place))) None (Some place)
          passes in cc)
      | inr fails ↦ (
        fails,
        let some = cond-false (is_carried view (option_and_then content_in (slice_get places place))) None (Some place)
            fails in cc,
      )
    ]

place-not_wrong : (log : Log) (stage later : ℕ) (posts : List Post) (place : ℕ) → stage < later → before log later ≡ Some posts
    → slots_before log.shape stage + place < slots_before log.shape (stage + 1)
    → unlike_at (view_of log.shape (contents_of posts) stage) (posts_in log stage) place ≡ None
    → wrong_at log.shape (contents_of posts) (slots_before log.shape stage + place) ≡ None
place-not_wrong log stage later posts place lt e within none =
    let past : List (List ℕ) = contents_of posts in
    let at = slot_at-sender log.shape stage place within in
    ap (option_and_then (wrong_slot log.shape past)) at
    ∙ cond-true (is_right log.shape past _) None (Some _) (place-right log stage later posts place _ lt e within at
    ∙ unlike-none (view_of log.shape past stage) (posts_in log stage) place none)

place-wrong : (log : Log) (stage later : ℕ) (posts : List Post) (place x : ℕ) (slot : Slot) → stage < later → before log later ≡ Some posts
    → slots_before log.shape stage + place < slots_before log.shape (stage + 1)
    → slot_at log.shape (slots_before log.shape stage + place) ≡ Some slot
    → unlike_at (view_of log.shape (contents_of posts) stage) (posts_in log stage) place ≡ Some x
    → wrong_at log.shape (contents_of posts) (slots_before log.shape stage + place) ≡ Some slot
place-wrong log stage later posts place x slot lt e within at some =
    let past : List (List ℕ) = contents_of posts in
    ap (option_and_then (wrong_slot log.shape past)) at
    ∙ cond-false (is_right log.shape past slot) None (Some slot)
    (place-right log stage later posts place slot lt e within at
    ∙ (unlike-some (view_of log.shape past stage) (posts_in log stage) place x some).0)

-- where all slots before a stage are right, and the places of the stage before a place, all numbers before it are
pub numbers-right : (log : Log) (stage later : ℕ) (posts : List Post) (places : ℕ) → IsLog log → stage < later
    → before log later ≡ Some posts
    → places ≤ length (posts_in log stage)
    → ((number : ℕ) → number < slots_before log.shape stage → wrong_at log.shape (contents_of posts) number ≡ None)
    → ((place : ℕ) → place < places → unlike_at (view_of log.shape (contents_of posts) stage) (posts_in log stage) place ≡ None)
    → (number : ℕ) → number < slots_before log.shape stage + places → wrong_at log.shape (contents_of posts) number ≡ None
numbers-right log stage later posts places is lt e most earlier now number below =
    elim (cases_lt number (slots_before log.shape stage)) [
      | inl before ↦ earlier number before
      | inr behind ↦
          let place : ℕ = number - slots_before log.shape stage in
          let same : slots_before log.shape stage + place ≡ number = omega arith in
          subst (λ (k : ℕ). wrong_at log.shape (contents_of posts) k ≡ None) same
          (place-not_wrong log stage later posts place lt e (omega (arith, length-posts_in log stage is)) (now place (omega arith)))
    ]

-- all places of a stage
pub stage-right : (log : Log) (stage later : ℕ) (posts : List Post) → IsLog log → stage < later → before log later ≡ Some posts
    → ((number : ℕ) → number < slots_before log.shape stage → wrong_at log.shape (contents_of posts) number ≡ None)
    → first_below (length (posts_in log stage)) (unlike_at (view_of log.shape (contents_of posts) stage) (posts_in log stage)) ≡ None
    → (number : ℕ) → number < slots_before log.shape (stage + 1) → wrong_at log.shape (contents_of posts) number ≡ None
stage-right log stage later posts is lt e earlier none number below =
    let view : List ℕ = view_of log.shape (contents_of posts) stage in
    let rises = slots_before-rises log.shape stage (stage + 1) (omega arith) in
    numbers-right log stage later posts (length (posts_in log stage)) is lt e (omega arith) earlier
    (first_below-each (unlike_at view (posts_in log stage)) (length (posts_in log stage)) none) number
    (omega (arith, length-posts_in log stage is))

-- the first place of a stage that does not carry the view is the first slot that is not right
pub stage-wrong : (log : Log) (stage later : ℕ) (posts : List Post) (place : ℕ) (slot : Slot) → IsLog log → stage < later
    → before log later ≡ Some posts
    → ((number : ℕ) → number < slots_before log.shape stage → wrong_at log.shape (contents_of posts) number ≡ None)
    → first_below (length (posts_in log stage)) (unlike_at (view_of log.shape (contents_of posts) stage) (posts_in log stage)) ≡ Some place
    → slot_at log.shape (slots_before log.shape stage + place) ≡ Some slot
    → first_wrong log.shape (contents_of posts) later ≡ Some slot
stage-wrong log stage later posts place slot is lt e earlier some at =
    let view : List ℕ = view_of log.shape (contents_of posts) stage in
    let row : List (Option Post) = posts_in log stage in
    let found = first_below-found (unlike_at view row) (length row) place some in
    let same = (unlike-some view row found.0 place found.2).1 in
    let rises = slots_before-rises log.shape (stage + 1) later (omega arith) in
    let rises_here = slots_before-rises log.shape stage (stage + 1) (omega arith) in
    let within : slots_before log.shape stage + place < slots_before log.shape (stage + 1) = omega
    (arith, length-posts_in log stage is, found.1) in
    let gives : unlike_at view row place ≡ Some place = subst (λ (k : ℕ). unlike_at view row k ≡ Some place) same found.2 in
    first_below-some (wrong_at log.shape (contents_of posts)) (slots_before log.shape later) (slots_before log.shape stage + place) slot
    (omega arith)
    (numbers-right log stage later posts place is lt e (omega (arith, found.1)) earlier (λ k lt. found.3 k (omega arith)))
    (place-wrong log stage later posts place place slot lt e within at gives)

-- a place that was found is one of the stage
pub place-within : (log : Log) (stage place : ℕ) (view : List ℕ) → IsLog log
    → first_below (length (posts_in log stage)) (unlike_at view (posts_in log stage)) ≡ Some place
    → slots_before log.shape stage + place < slots_before log.shape (stage + 1)
place-within log stage place view is some =
    let found = first_below-found (unlike_at view (posts_in log stage)) (length (posts_in log stage)) place some in
    let same = (unlike-some view (posts_in log stage) found.0 place found.2).1 in
    let rises = slots_before-rises log.shape stage (stage + 1) (omega arith) in
    omega (arith, length-posts_in log stage is, found.1)
