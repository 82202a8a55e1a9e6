-- What was said before a stage is a front of what was said before a later one.
use Rattle.std.proofs.Common.{◌≡◌, ℕ, zero, suc, ◌+◌, ◌-◌, ◌<◌, ◌≤◌, Bool, true, false, List, [], ◌∷◌, ◌++◌, length, map, take, drop, Option, Some, None, refl, ap, sym, ◌∙◌, subst, arith, inl, inr, add-one}
use Rattle.std.specs.Prelude.{if◌then◌else◌, ◌&&◌, IsSome, IsTrue, is_some, option_and_then}
use Rattle.std.specs.List.{list_all, slice_get, slice_range, slice_set, range_with_len}
use Rattle.std.specs.Option.{option_flatten, option_map}
use Rattle.std.proofs.Math.Seq.{take-add}
use Rattle.wire_core.specs.declared.tag.Tag.TheVariants.{View}
use Rattle.wire_core.specs.Hash.{hash_of}
use Rattle.std.proofs.lemmas.Bool.{cases_lt, cond-true}
use Rattle.std.proofs.lemmas.List.{map-append, take-map, take-set-le, take-take}
use Rattle.std.proofs.lemmas.Option.{slice_get-map}
use Rattle.wire_core.specs.Answers.{first_some, first_below}
use Rattle.phase_message.specs.declared.post.Post.{Post}
use Rattle.phase_message.specs.declared.stage.Slot.{Slot}
use Rattle.phase_message.specs.Shape.{Shape}
use Rattle.phase_message.specs.Stages.{is_slot}
use Rattle.phase_message.specs.Slots.{slot_at, slot_number, slots_before}
use Rattle.phase_message.proofs.SlotLists.{slot_at-is, slot_number-within, slots_before-rises}
use Rattle.stage_log.specs.Table.{Log, filled, is_complete, kept_in, posts_in}
use Rattle.stage_log.specs.Put.{filled_if, put_log}
use Rattle.stage_log.specs.Log.{all_some, before, contents_at, first_wrong, is_carried, is_right, view_of, wrong_at, wrong_slot}
use Rattle.stage_log.proofs.Pasts.{all_some-is, all_some-map, option_map-some, posts_in-past, slice_range-take, some_of}
use Rattle.stage_log.proofs.Views.{slice_get-take, view_of-next}

-- ---- fronts

pub before-front : (log : Log) (stage later : ℕ) (posts : List Post) → stage ≤ later → before log later ≡ Some posts
    → before log stage ≡ Some (take (slots_before log.shape stage) posts)
before-front log stage later posts le e =
    let n : ℕ = slots_before log.shape stage in
    let m : ℕ = slots_before log.shape later in
    let within : n ≤ m = slots_before-rises log.shape stage later le in
    ap all_some (sym (take-take n m log.posts within) ∙ ap (take n) (all_some-is (take m log.posts) posts e)
    ∙ take-map (λ x. Some x) n posts)
    ∙ all_some-map (take n posts)

-- ---- a post that is put

set-past : {A : Type 0} (xs : List A) (k : ℕ) (y : A) → slice_get xs k ≡ None → slice_set xs k y ≡ xs
set-past [] k y e = refl
set-past (x ∷ xs) zero y e = absurd cc
set-past (x ∷ xs) (suc k) y e = ap (λ (t : List _). x ∷ t) (set-past xs k y e)

-- where a place has no post, or there is no such place, filling it changes no front that is whole
front-filled : (places : List (Option Post)) (posts : List Post) (n k : ℕ) (post : Post) → all_some (take n places) ≡ Some posts
    → option_flatten (slice_get places k) ≡ None
    → all_some (take n (slice_set places k (Some post))) ≡ Some posts
front-filled places posts n k post e empty =
    elim (cases_lt k n) [
      | inl lt ↦
          let entry : slice_get places k ≡ option_map (λ x. Some x) (slice_get posts k) = sym (slice_get-take places n k lt)
          ∙ ap (λ (t : List (Option Post)). slice_get t k) (all_some-is (take n places) posts e)
          ∙ slice_get-map (λ x. Some x) posts k in
          let none = missing (slice_get posts k) (sym (ap (λ (o : Option (Option Post)). option_flatten o) entry) ∙ empty) in
          let past : slice_get places k ≡ None = entry ∙ ap (option_map (λ x. Some x)) none in
          ap (λ (t : List (Option Post)). all_some (take n t)) (set-past places k (Some post) past) ∙ e
      | inr le ↦ ap all_some (take-set-le n places k (Some post) le) ∙ e
    ]
  where
    missing : (o : Option Post) → option_flatten (option_map (λ x. Some x) o) ≡ None → o ≡ None
    missing None e = refl
    missing (Some p) e = absurd cc

pub before-put : (log : Log) (slot : Slot) (post : Post) (stage : ℕ) (posts : List Post) → is_slot log.shape slot.stage slot.sender ≡ true
    → before log stage ≡ Some posts → before (put_log log slot post) stage ≡ Some posts
before-put log slot post stage posts speaks e = by_kept (kept_in log slot) refl
  where
    by_kept : (o : Option Post) → kept_in log slot ≡ o → before (put_log log slot post) stage ≡ Some posts
    by_kept (Some kept) is = ap (λ (o : Option Post). before (filled_if o log (filled log slot post)) stage) is ∙ e
    by_kept None is =
        let number : ℕ = slot_number log.shape slot.stage slot.sender in
        let empty : option_flatten (slice_get log.posts number) ≡ None = sym
        (cond-true (is_slot log.shape slot.stage slot.sender) (option_flatten (slice_get log.posts number)) None speaks) ∙ is in
        ap (λ (o : Option Post). before (filled_if o log (filled log slot post)) stage) is
        ∙ front-filled log.posts posts (slots_before log.shape stage) number post e empty

-- ---- complete stages

all_some-append : {A : Type 0} (xs zs : List (Option A)) (ys ws : List A) → all_some xs ≡ Some ys → all_some zs ≡ Some ws
    → all_some (xs ++ zs) ≡ Some (ys ++ ws)
all_some-append {A} xs zs ys ws e e' =
    ap all_some (ap (λ (t : List (Option A)). t ++ zs) (all_some-is xs ys e)
    ∙ ap (λ (t : List (Option A)). map (λ x. Some x) ys ++ t) (all_some-is zs ws e') ∙ sym (map-append (λ x. Some x) ys ws))
    ∙ all_some-map (ys ++ ws)

-- a list in which each value is there
whole : {A : Type 0} (xs : List (Option A)) → list_all is_some xs ≡ true → (ys : List A) × (all_some xs ≡ Some ys)
whole {A} [] e = ([], refl)
whole {A} (Some x ∷ xs) e = let more = whole xs e in (x ∷ more.0, ap (option_map (λ (ys : List A). x ∷ ys)) more.1)
whole {A} (None ∷ xs) e = absurd cc

all_there : {A : Type 0} (xs : List A) → list_all is_some (map (λ x. Some x) xs) ≡ true
all_there [] = refl
all_there (x ∷ xs) = all_there xs

pub complete-before : (log : Log) (stage earlier : ℕ) → IsSome (before log stage) → earlier < stage → is_complete log earlier ≡ true
complete-before log stage earlier is lt =
    let past = some_of (before log stage) is in
    ap (list_all is_some) (posts_in-past log earlier stage past.0 lt past.1)
    ∙ all_there (slice_range past.0 (slots_before log.shape earlier) (slots_before log.shape (earlier + 1)))

-- the front to the next stage is the front to this one, and this stage
pub front-next : {A : Type 0} (xs : List A) (a b : ℕ) → a ≤ b → take b xs ≡ take a xs ++ slice_range xs a b
front-next xs a b le = let split : b ≡ a + (b - a) = omega arith in ap (λ (k : ℕ). take k xs) split ∙ take-add a (b - a) xs

pub before-complete : (log : Log) (stage : ℕ) → ((earlier : ℕ) → earlier < stage → is_complete log earlier ≡ true) → (posts : List Post)
    × (before log stage ≡ Some posts)
before-complete log zero all = ([], refl)
before-complete log (suc stage) all =
    let past = before-complete log stage (λ earlier lt. all earlier (omega arith)) in
    let row = whole (posts_in log stage) (all stage (omega arith)) in
    let a : ℕ = slots_before log.shape stage in
    let b : ℕ = slots_before log.shape (stage + 1) in
    let next : slots_before log.shape (suc stage) ≡ b = ap (λ (t : ℕ). slots_before log.shape t) (sym (add-one stage)) in (
      past.0 ++ row.0,
      ap (λ (k : ℕ). all_some (take k log.posts)) next
          ∙ ap all_some (front-next log.posts a b (slots_before-rises log.shape stage (stage + 1) (omega arith)))
          ∙ all_some-append (take a log.posts) (posts_in log stage) past.0 row.0 past.1 row.1,
    )

-- ---- views look back

contents_at-take : (shape : Shape) (past : List (List ℕ)) (stage later : ℕ) → stage < later
    → contents_at shape (take (slots_before shape later) past) stage ≡ contents_at shape past stage
contents_at-take shape past stage later lt =
    slice_range-take past (slots_before shape stage) (slots_before shape (stage + 1)) (slots_before shape later)
    (slots_before-rises shape stage (stage + 1) (omega arith)) (slots_before-rises shape (stage + 1) later (omega arith))

pub view_of-take : (shape : Shape) (past : List (List ℕ)) (stage later : ℕ) → stage ≤ later
    → view_of shape (take (slots_before shape later) past) stage ≡ view_of shape past stage
view_of-take shape past zero later le = refl
view_of-take shape past (suc stage) later le =
    ap (λ (v : List ℕ). hash_of View (v ∷ contents_at shape (take (slots_before shape later) past) stage))
    (view_of-take shape past stage later (omega arith))
    ∙ ap (λ (t : List (List ℕ)). hash_of View (view_of shape past stage ∷ t)) (contents_at-take shape past stage later (omega arith))

first_below-same : {A : Type 0} (f g : ℕ → Option A) (n : ℕ) → ((k : ℕ) → k < n → f k ≡ g k) → first_below n f ≡ first_below n g
first_below-same f g n same = ap first_some (from f g 0 n (λ k le lt. same k (omega arith)))
  where
    from : {A : Type 0} (f g : ℕ → Option A) (a n : ℕ) → ((k : ℕ) → a ≤ k → k < a + n → f k ≡ g k)
        → map f (range_with_len a n) ≡ map g (range_with_len a n)
    from f g a zero same = refl
    from f g a (suc n) same =
        ap (λ (o : Option _). o ∷ map f (range_with_len (a + 1) n)) (same a (omega arith) (omega arith))
        ∙ ap (λ (t : List (Option _)). g a ∷ t) (from f g (a + 1) n (λ k le lt. same k (omega arith) (omega arith)))

-- a stage with fewer slots before it is earlier
stage-below : (shape : Shape) (a b : ℕ) → slots_before shape a < slots_before shape b → a < b
stage-below shape a b lt =
    elim (cases_lt a b) [
      | inl below ↦ below
      | inr le ↦ absurd (omega (arith, slots_before-rises shape b a le))
    ]

wrong_at-take : (shape : Shape) (past : List (List ℕ)) (stage later number : ℕ) → stage ≤ later → number < slots_before shape stage
    → wrong_at shape (take (slots_before shape later) past) number ≡ wrong_at shape past number
wrong_at-take shape past stage later number le lt = by_slot (slot_at shape number) refl
  where
    by_slot : (o : Option Slot) → slot_at shape number ≡ o → wrong_at shape (take (slots_before shape later) past) number ≡ wrong_at shape
        past number
    by_slot None is = ap (option_and_then (wrong_slot shape (take (slots_before shape later) past))) is
        ∙ sym (ap (option_and_then (wrong_slot shape past)) is)
    by_slot (Some slot) is =
        let front : List (List ℕ) = take (slots_before shape later) past in
        let found = slot_at-is shape number slot is in
        let within = slot_number-within shape slot.stage slot.sender found.0 in
        let earlier : slot.stage < stage = stage-below shape slot.stage stage (omega (arith, within.0, found.1)) in
        let rises = slots_before-rises shape stage later le in
        let right : is_right shape front slot ≡ is_right shape past slot =
        ap (λ (v : List ℕ). is_carried v (slice_get front (slot_number shape slot.stage slot.sender)))
        (view_of-take shape past slot.stage later (omega arith))
        ∙ ap (is_carried (view_of shape past slot.stage)) (slice_get-take past (slots_before shape later)
        (slot_number shape slot.stage slot.sender) (omega (arith, found.1))) in
        ap (option_and_then (wrong_slot shape front)) is
        ∙ ap (λ (b : Bool). if b then None else Some slot) right
        ∙ sym (ap (option_and_then (wrong_slot shape past)) is)

pub first_wrong-take : (shape : Shape) (past : List (List ℕ)) (stage later : ℕ) → stage ≤ later
    → first_wrong shape (take (slots_before shape later) past) stage ≡ first_wrong shape past stage
first_wrong-take shape past stage later le =
    first_below-same (wrong_at shape (take (slots_before shape later) past)) (wrong_at shape past) (slots_before shape stage)
    (λ number lt. wrong_at-take shape past stage later number le lt)

pub some_is : {A : Type 0} (o : Option A) (x : A) → o ≡ Some x → IsSome o
some_is (Some y) x e = refl
some_is None x e = absurd cc

-- ---- equal contents

pub views-same : (shape : Shape) (past other : List (List ℕ)) (stage : ℕ)
    → take (slots_before shape stage) past ≡ take (slots_before shape stage) other → view_of shape past stage ≡ view_of shape other stage
views-same shape past other stage e =
    sym (view_of-take shape past stage stage (omega arith)) ∙ ap (λ (t : List (List ℕ)). view_of shape t stage) e
    ∙ view_of-take shape other stage stage (omega arith)

pub wrong-same : (shape : Shape) (past other : List (List ℕ)) (stage : ℕ)
    → take (slots_before shape stage) past ≡ take (slots_before shape stage) other
    → first_wrong shape past stage ≡ first_wrong shape other stage
wrong-same shape past other stage e =
    sym (first_wrong-take shape past stage stage (omega arith)) ∙ ap (λ (t : List (List ℕ)). first_wrong shape t stage) e
    ∙ first_wrong-take shape other stage stage (omega arith)
