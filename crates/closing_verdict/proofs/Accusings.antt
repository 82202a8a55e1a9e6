-- The first item of shuffle B that opened to an accusation that holds.
use Rattle.std.proofs.Common.{◌≡◌, ℕ, suc, ◌≤◌, Bool, true, false, List, [], ◌∷◌, drop, map, Option, Some, None, Result, refl, ap, sym, ◌∙◌, arith}
use Rattle.std.specs.Prelude.{is_none, is_ok, option_and_then, option_map, if◌then◌else◌}
use Rattle.std.specs.List.{slice_get}
use Rattle.std.proofs.lemmas.Option.{none-some}
use Rattle.wire_core.specs.Answers.{first_some, value_unless}
use Rattle.phase_message.specs.Shape.{Shape}
use Rattle.bulk_descriptor.specs.Descriptor.{Description}
use Rattle.transcript_form.specs.declared.accusation.Accusation.{Accusation}
use Rattle.transcript_form.specs.Accusation.{accusation_of}
use Rattle.accusation.specs.declared.holding.AccusationRefusal.{AccusationRefusal}
use Rattle.accusation.specs.Accusation.{refusal_of}
use Rattle.accusation.proofs.AccusationLemmas.{holds_exactly}
use Rattle.honest_say.proofs.Members.{keys-count}
use Rattle.round_spec.proofs.GoLists.{drop-here}
use Rattle.round_spec.specs.Slots.{bulk_place, descriptors_opened, items_opened, keys_said, pads_sent}
use Rattle.round_spec.specs.Verdict.{ClosedStage, Verdict, bad_pad, bad_pad_by, bad_pad_if, first_bad_pad, is_held, past_at, shape_at}
use Rattle.closing_verdict.specs.Telling.{held_at, held_by, is_held_at}

-- ---- whether it holds

ok-unless : (o : Option AccusationRefusal) → is_ok (value_unless o (tt {0})) ≡ is_none o
ok-unless None = refl
ok-unless (Some refusal) = refl

pub held-is : (shape : Shape) (past : List (List ℕ)) (a : Accusation) (found : List (Option Description)) (table : List (List (List ℕ)))
    (keys : List (List ℕ)) (r : Result (Unit {0}) AccusationRefusal) (b : Bool)
    → b ≡ is_ok r → r ≡ value_unless (refusal_of a found table keys) (tt {0}) → found ≡ descriptors_opened shape past
    → table ≡ pads_sent shape past → keys ≡ keys_said shape past bulk_place
    → b ≡ is_held shape past a
unfolding is_held
held-is shape past a found table keys r b ok is found_is table_is keys_are =
    ok ∙ ap is_ok is ∙ ok-unless (refusal_of a found table keys)
    ∙ ap (λ (d : List (Option Description)). is_none (refusal_of a d table keys)) found_is
    ∙ ap (λ (t : List (List (List ℕ))). is_none (refusal_of a (descriptors_opened shape past) t keys)) table_is
    ∙ ap (λ (k : List (List ℕ)). is_none (refusal_of a (descriptors_opened shape past) (pads_sent shape past) k)) keys_are

none-is : {A : Type 0} (o : Option A) → is_none o ≡ true → o ≡ None
none-is None e = refl
none-is (Some x) e = absurd cc

-- an accusation that holds is of a member
pub held-member : (shape : Shape) (past : List (List ℕ)) (a : Accusation) → is_held shape past a ≡ true → (1 ≤ a.member)
    × (a.member ≤ shape.members)
unfolding is_held
held-member shape past a held =
    let refusal = refusal_of a (descriptors_opened shape past) (pads_sent shape past) (keys_said shape past bulk_place) in
    let holds = (holds_exactly a (descriptors_opened shape past) (pads_sent shape past) (keys_said shape past bulk_place)).0
    (none-is (refusal_of a (descriptors_opened shape past) (pads_sent shape past) (keys_said shape past bulk_place)) held) in
    let of_it = holds.2 in
    (of_it.first, (let last = of_it.last in omega (arith, last, keys-count shape past bulk_place)))

-- ---- the first

mapped-some : {A B : Type 0} (f : A → B) (b : Bool) (x : A) → (if b then Some (f x) else None) ≡ option_map f (if b then Some x else None)
mapped-some f true x = refl
mapped-some f false x = refl

pad-by : (v : ClosedStage) (item : Option (List ℕ)) → bad_pad_by v item ≡ option_map (bad_pad v) (held_by v item)
pad-by v None = refl
pad-by v (Some bytes) = by_accusation (accusation_of bytes)
  where
    by_accusation : (o : Option Accusation) → option_and_then (bad_pad_if v) o ≡ option_map (bad_pad v) (option_and_then (held_at v) o)
    by_accusation None = refl
    by_accusation (Some a) = mapped-some (bad_pad v) (is_held_at v a) a

first-pad : (v : ClosedStage) (items : List (Option (List ℕ))) → first_some (map (bad_pad_by v) items) ≡ option_map (bad_pad v)
    (first_some (map (held_by v) items))
first-pad v [] = refl
first-pad v (item ∷ items) =
    ap (λ (o : Option Verdict). first_some (o ∷ map (bad_pad_by v) items)) (pad-by v item) ∙ by_held (held_by v item) (first-pad v items)
  where
    by_held : (o : Option Accusation) → first_some (map (bad_pad_by v) items) ≡ option_map (bad_pad v) (first_some (map (held_by v) items))
        → first_some (option_map (bad_pad v) o ∷ map (bad_pad_by v) items) ≡ option_map (bad_pad v) (first_some (o ∷ map (held_by v) items))
    by_held None later = later
    by_held (Some a) later = refl

-- what was found, as a verdict
pub pad-told : (v : ClosedStage) (items : List (Option (List ℕ))) (found : Option Accusation)
    → items ≡ items_opened (shape_at v) (past_at v) 2 → found ≡ first_some (map (held_by v) items)
    → first_bad_pad v ≡ option_map (bad_pad v) found
unfolding first_bad_pad
pad-told v items found are is =
    ap (λ (t : List (Option (List ℕ))). first_some (map (bad_pad_by v) t)) (sym are) ∙ first-pad v items
    ∙ ap (option_map (bad_pad v)) (sym is)

pub held-told : (v : ClosedStage) (items : List (Option (List ℕ))) (a : Accusation) → first_some (map (held_by v) items) ≡ Some a
    → is_held_at v a ≡ true
held-told v [] a e = absurd (none-some a e)
held-told v (item ∷ items) a e = by_item (held-told v items a) (held_by v item) refl e
  where
    held-some : (b : Accusation) → held_at v b ≡ Some a → is_held_at v a ≡ true
    held-some b is = by_test (is_held_at v b) refl is
      where
        by_test : (t : Bool) → is_held_at v b ≡ t → (if t then Some b else None) ≡ Some a → is_held_at v a ≡ true
        by_test true held got = (let same : b ≡ a = cc in ap (is_held_at v) (sym same) ∙ held)
        by_test false held got = absurd (none-some a got)

    by_read : (o : Option Accusation) → option_and_then (held_at v) o ≡ Some a → is_held_at v a ≡ true
    by_read None is = absurd (none-some a is)
    by_read (Some b) is = held-some b is

    by_item : (first_some (map (held_by v) items) ≡ Some a → is_held_at v a ≡ true) → (o : Option Accusation) → held_by v item ≡ o
        → first_some (o ∷ map (held_by v) items) ≡ Some a → is_held_at v a ≡ true
    by_item later None is got = later got
    by_item later (Some b) is got = by_read (option_and_then accusation_of item) (is ∙ got)

-- the first of the items from a place on is at it
pub first-at : (v : ClosedStage) (items : List (Option (List ℕ))) (k : ℕ) (item : Option (List ℕ)) (a : Accusation)
    → first_some (map (held_by v) items) ≡ first_some (map (held_by v) (drop k items))
    → slice_get items k ≡ Some item → held_by v item ≡ Some a → Some a ≡ first_some (map (held_by v) items)
first-at v items k item a so_far at held =
    sym (so_far ∙ ap (λ (t : List (Option (List ℕ))). first_some (map (held_by v) t)) (drop-here items k item at)
    ∙ ap (λ (o : Option Accusation). first_some (o ∷ map (held_by v) (drop (suc k) items))) held)
