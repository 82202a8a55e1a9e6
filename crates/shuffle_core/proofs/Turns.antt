-- What a turn says, and what stays through a change of order.
use Rattle.std.proofs.Common.{◌≡◌, ℕ, zero, suc, ◌<◌, List, [], ◌∷◌, length, get_or, Bool, true, false, ◌||◌, ◌⊎◌, refl, sym, ◌∙◌, arith, inl, inr, Option, Some, None}
use Rattle.std.specs.List.{list_any, IsDistinct, AllByRecursion}
use Rattle.std.specs.Str.{bytes_eq}
use Rattle.std.proofs.lemmas.Slice.Eq.{bytes_eq-Decides}
use Rattle.std.proofs.lemmas.List.Sorted.{IsPermutation-sym, Contains-permutation, length_permutation}
use Rattle.std.proofs.lemmas.Map.Keys.{IsDistinct-head, IsDistinct-tail, IsDistinct-IsPermutation, apart_from_distinct, IsDistinct-from_apart}
use Rattle.layer_cipher.specs.Stripping.{stripped}
use Rattle.layer_cipher.proofs.StrippingLemmas.{strips_all, strips_unless_closed}
use Rattle.phase_message.specs.declared.content.Body.TheVariants.{Shuffled, Abort}
use Rattle.shuffle_core.specs.Shuffle.{has_equal, in_drawn_order, turn_of}
use Rattle.shuffle_core.specs.Laws.{AreDistinct, HasTwins, EqualsAreFound, DistinctAreFound, PermutationKeeps, TurnPermutes, TurnSaysBodies, TurnAborts}
use Rattle.shuffle_core.proofs.Drawn.{entries_are_permuted}

-- ---- equal bytes

eq-true : (x y : List ℕ) → x ≡ y → bytes_eq x y ≡ true
eq-true x y same = (bytes_eq-Decides x y).1 same

eq-same : (x y : List ℕ) → bytes_eq x y ≡ true → x ≡ y
eq-same x y test = (bytes_eq-Decides x y).0 test

not_true : (b : Bool) → (b ≡ true → ⊥) → b ≡ false
not_true true h = absurd (h refl)
not_true false h = refl

eq-false : (x y : List ℕ) → (x ≡ y → ⊥) → bytes_eq x y ≡ false
eq-false x y other = not_true (bytes_eq x y) (λ test. other (eq-same x y test))

same_tests : (a b : Bool) → (a ≡ true → b ≡ true) → (b ≡ true → a ≡ true) → a ≡ b
same_tests true b there back = sym (there refl)
same_tests false true there back = back refl
same_tests false false there back = refl

eq-flips : (x y : List ℕ) → bytes_eq x y ≡ bytes_eq y x
eq-flips x y = same_tests (bytes_eq x y) (bytes_eq y x) (λ test. eq-true y x (sym (eq-same x y test)))
    (λ test. eq-true x y (sym (eq-same y x test)))

neither : (a b : Bool) → (a || b) ≡ false → (a ≡ false) × (b ≡ false)
neither true b e = cc
neither false b e = (refl, e)

either_of : (a b : Bool) → (a || b) ≡ true → (a ≡ true) ⊎ (b ≡ true)
either_of true b e = inl refl
either_of false b e = inr e

-- ---- whether an entry stands twice

has_equal-cons : (x : List ℕ) (xs : List (List ℕ)) → has_equal (x ∷ xs) ≡ (list_any (bytes_eq x) xs || has_equal xs)
unfolding has_equal
has_equal-cons x xs = refl

has_equal-nil : has_equal [] ≡ false
unfolding has_equal
has_equal-nil = refl

none_pass : (p : List ℕ → Bool) (xs : List (List ℕ)) → list_any p xs ≡ false → AllByRecursion (λ y. p y ≡ false) xs
none_pass p [] e = tt
none_pass p (x ∷ xs) e = let parts = neither (p x) (list_any p xs) e in (parts.0, none_pass p xs parts.1)

pass_none : (p : List ℕ → Bool) (xs : List (List ℕ)) → AllByRecursion (λ y. p y ≡ false) xs → list_any p xs ≡ false
pass_none p [] all = refl
pass_none p (x ∷ xs) all = rw (all.0, pass_none p xs all.1) refl

differ : (xs : List (List ℕ)) → has_equal xs ≡ false → IsDistinct bytes_eq xs
unfolding IsDistinct
differ [] e = tt
differ (x ∷ xs) e =
    let parts = neither (list_any (bytes_eq x) xs) (has_equal xs) (sym (has_equal-cons x xs) ∙ e) in
    (none_pass (bytes_eq x) xs parts.0, differ xs parts.1)

differing : (xs : List (List ℕ)) → IsDistinct bytes_eq xs → has_equal xs ≡ false
differing [] distinct = has_equal-nil
differing (x ∷ xs) distinct =
    rw (
      has_equal-cons x xs,
      pass_none (bytes_eq x) xs (IsDistinct-head bytes_eq x xs distinct),
      differing xs
          (IsDistinct-tail bytes_eq x xs distinct),
    ) refl

apart : (xs : List (List ℕ)) → has_equal xs ≡ false → AreDistinct xs
apart xs e i j d before within same =
    let other : bytes_eq (get_or xs i d) (get_or xs j d) ≡ false = apart_from_distinct bytes_eq xs i j d (differ xs e) before within in
    let equal : bytes_eq (get_or xs i d) (get_or xs j d) ≡ true = eq-true (get_or xs i d) (get_or xs j d) same in
    cc

from_apart : (xs : List (List ℕ)) → AreDistinct xs → has_equal xs ≡ false
from_apart xs distinct =
    differing xs (IsDistinct-from_apart bytes_eq xs (λ i j d before within. eq-false (get_or xs i d) (get_or xs j d)
    (distinct i j d before within)))

pub distinct_are_found : DistinctAreFound
distinct_are_found xs = (apart xs, from_apart xs)

-- the place of an entry that passes
place_passing : (p : List ℕ → Bool) (xs : List (List ℕ)) → list_any p xs ≡ true → (k : ℕ) × (k < length xs) × (p (get_or xs k []) ≡ true)
place_passing p [] e = cc
place_passing p (x ∷ xs) e = elim (either_of (p x) (list_any p xs) e) [
  | inl here ↦ (zero, omega arith, here)
  | inr later ↦ let rest = place_passing p xs later in (suc rest.0, omega (arith, rest.1), rest.2)
]

twins : (xs : List (List ℕ)) → has_equal xs ≡ true → HasTwins xs
twins [] e = let none = has_equal-nil in cc
twins (x ∷ xs) e = elim (either_of (list_any (bytes_eq x) xs) (has_equal xs) (sym (has_equal-cons x xs) ∙ e)) [
  | inl first ↦
      let other = place_passing (bytes_eq x) xs first in
      (zero, suc other.0, omega arith, omega (arith, other.1), eq-same x (get_or xs other.0 []) other.2)
  | inr later ↦
      let rest = twins xs later in
      (suc rest.0, suc rest.1, omega (arith, rest.2), omega (arith, rest.3), rest.4)
]

not_false : (b : Bool) → (b ≡ false → ⊥) → b ≡ true
not_false true h = refl
not_false false h = absurd (h refl)

twins_equal : (xs : List (List ℕ)) → HasTwins xs → has_equal xs ≡ true
twins_equal xs two = not_false (has_equal xs) (λ e. apart xs e two.0 two.1 [] two.2 two.3 two.4)

pub equals_are_found : EqualsAreFound
equals_are_found xs = (twins xs, twins_equal xs)

pub permutation_keeps : PermutationKeeps
permutation_keeps xs ys moved = (
  length_permutation xs ys moved,
  λ entry. (Contains-permutation xs ys entry moved, Contains-permutation ys xs entry (IsPermutation-sym xs ys moved)),
  λ distinct. apart ys (differing ys (IsDistinct-IsPermutation bytes_eq eq-flips xs ys moved (differ xs (from_apart xs distinct)))),
)

-- ---- a turn

said : (seed order_seed : List ℕ) (entries : List (List ℕ)) (equal : Bool) (bodies : Option (List (List ℕ))) → has_equal entries ≡ equal
    → stripped seed entries ≡ bodies
    → turn_of seed order_seed entries ≡ (elim equal [
      | true ↦ Abort
      | false ↦ elim bodies
          [ None ↦ Abort | Some list ↦ Shuffled (in_drawn_order order_seed list) ]
    ])
unfolding turn_of
said seed order_seed entries true bodies equal is = rw equal refl
said seed order_seed entries false None equal is = rw (equal, is) refl
said seed order_seed entries false (Some list) equal is = rw (equal, is) refl

pub turn_permutes : TurnPermutes
turn_permutes seed order_seed entries bodies few distinct is =
    let long = strips_all seed entries bodies is in (
      in_drawn_order order_seed bodies,
      said seed order_seed entries false (Some bodies) (from_apart entries distinct) is,
      entries_are_permuted order_seed bodies (omega arith),
    )

same_list : (x y : List (List ℕ)) → Shuffled x ≡ Shuffled y → x ≡ y
same_list x y e = cc

says : (seed order_seed : List ℕ) (entries list : List (List ℕ)) (equal : Bool) (bodies : Option (List (List ℕ)))
    → has_equal entries ≡ equal → stripped seed entries ≡ bodies
    → turn_of seed order_seed entries ≡ Shuffled list
    → AreDistinct entries × ((bodies : List (List ℕ)) × (stripped seed entries ≡ Some bodies) × (list ≡ in_drawn_order order_seed bodies))
says seed order_seed entries list true bodies equal is e = let abort : Abort ≡ Shuffled list = sym
    (said seed order_seed entries true bodies equal is) ∙ e in cc
says seed order_seed entries list false None equal is e = let abort : Abort ≡ Shuffled list = sym
    (said seed order_seed entries false None equal is) ∙ e in cc
says seed order_seed entries list false (Some bodies) equal is e = (
  apart entries equal,
  (
    bodies,
    is,
    same_list list (in_drawn_order order_seed bodies)
        (sym e ∙ said seed order_seed entries false (Some bodies) equal is),
  ),
)

pub turn_says_bodies : TurnSaysBodies
turn_says_bodies seed order_seed entries list e = says seed order_seed entries list (has_equal entries) (stripped seed entries) refl refl e

aborts : (seed order_seed : List ℕ) (entries : List (List ℕ)) (equal : Bool) (bodies : Option (List (List ℕ))) → has_equal entries ≡ equal
    → stripped seed entries ≡ bodies
    → turn_of seed order_seed entries ≡ Abort → (has_equal entries ≡ true) ⊎ (stripped seed entries ≡ None)
aborts seed order_seed entries true bodies equal is e = inl equal
aborts seed order_seed entries false None equal is e = inr is
aborts seed order_seed entries false (Some list) equal is e =
    let shuffled : Shuffled (in_drawn_order order_seed list) ≡ Abort = sym (said seed order_seed entries false (Some list) equal is) ∙ e in
    cc

closed_aborts : (seed order_seed : List ℕ) (entries : List (List ℕ)) (equal : Bool) → has_equal entries ≡ equal
    → stripped seed entries ≡ None → turn_of seed order_seed entries ≡ Abort
closed_aborts seed order_seed entries true equal is = said seed order_seed entries true None equal is
closed_aborts seed order_seed entries false equal is = said seed order_seed entries false None equal is

pub turn_aborts : TurnAborts
turn_aborts seed order_seed entries = (
  λ e. elim (aborts seed order_seed entries (has_equal entries) (stripped seed entries) refl refl e) [
    | inl equal ↦ inl (twins entries equal)
    | inr none ↦ inr ((strips_unless_closed seed entries).0 none)
  ],
  λ why. elim why [
    | inl two ↦ said seed order_seed entries true (stripped seed entries) (twins_equal entries two) refl
    | inr any ↦ closed_aborts seed order_seed entries (has_equal entries) refl ((strips_unless_closed seed entries).1 any)
  ],
)
