-- What stands in lists that are made of others.
use Rattle.std.proofs.Common.{◌≡◌, ◌⊎◌, zero, suc, Bool, true, List, [], ◌∷◌, map, Option, Some, None, ap, sym, ◌∙◌, refl, subst, arith, inl, inr}
use Rattle.std.specs.Prelude.{Contains, filter, filter_map}
use Rattle.std.specs.List.{cons_option, flat_map}
use Rattle.std.proofs.lemmas.Bool.{cases_Bool, cond-true, cond-false}
use Rattle.std.proofs.lemmas.List.Elements.{Contains-append_cases, Contains-append_left, Contains-append_right}

pub contains-nothing : {A : Type 0} (x : A) → Contains [] x → ⊥
contains-nothing x (k, lt, e) = omega (arith, lt)

pub contains-here : {A : Type 0} (x : A) (xs : List A) → Contains (x ∷ xs) x
contains-here x xs = (0, omega arith, refl)

pub contains-later : {A : Type 0} (y : A) (xs : List A) (x : A) → Contains xs x → Contains (y ∷ xs) x
contains-later y xs x (k, lt, e) = (suc k, omega (arith, lt), e)

pub contains-cases : {A : Type 0} (y : A) (xs : List A) (x : A) → Contains (y ∷ xs) x → (y ≡ x) ⊎ Contains xs x
contains-cases y xs x (zero, lt, e) = inl e
contains-cases y xs x (suc k, lt, e) = inr (k, omega (arith, lt), e)

pub contains-map : {A B : Type 0} (f : A → B) (xs : List A) (y : B) → Contains (map f xs) y → (x : A) × Contains xs x × (f x ≡ y)
contains-map f [] y c = absurd (contains-nothing y c)
contains-map f (x ∷ xs) y c = elim (contains-cases (f x) (map f xs) y c) [
  | inl here ↦ (x, contains-here x xs, here)
  | inr later ↦ (let found = contains-map f xs y later in (found.0, contains-later x xs found.0 found.1, found.2))
]

pub contains-map-from : {A B : Type 0} (f : A → B) (xs : List A) (x : A) → Contains xs x → Contains (map f xs) (f x)
contains-map-from f [] x c = absurd (contains-nothing x c)
contains-map-from {A} {B} f (y ∷ xs) x c = elim (contains-cases y xs x c) [
  | inl here ↦ subst (λ (z : A). Contains (map f (y ∷ xs)) (f z)) here (contains-here (f y) (map f xs))
  | inr later ↦ contains-later (f y) (map f xs) (f x) (contains-map-from f xs x later)
]

pub contains-flat : {A B : Type 0} (f : A → List B) (xs : List A) (y : B) → Contains (flat_map f xs) y → (x : A) × Contains xs x
    × Contains (f x) y
contains-flat f [] y c = absurd (contains-nothing y c)
contains-flat f (x ∷ xs) y c = elim (Contains-append_cases (f x) (flat_map f xs) y c) [
  | inl here ↦ (x, contains-here x xs, here)
  | inr later ↦ (let found = contains-flat f xs y later in (found.0, contains-later x xs found.0 found.1, found.2))
]

pub contains-flat-from : {A B : Type 0} (f : A → List B) (xs : List A) (x : A) (y : B) → Contains xs x → Contains (f x) y
    → Contains (flat_map f xs) y
contains-flat-from f [] x y c d = absurd (contains-nothing x c)
contains-flat-from {A} {B} f (z ∷ xs) x y c d = elim (contains-cases z xs x c) [
  | inl here ↦ Contains-append_left (f z) (flat_map f xs) y (subst (λ (a : A). Contains (f a) y) (sym here) d)
  | inr later ↦ Contains-append_right (f z) (flat_map f xs) y (contains-flat-from f xs x y later d)
]

pub contains-filter : {A : Type 0} (p : A → Bool) (xs : List A) (x : A) → Contains (filter p xs) x → Contains xs x × (p x ≡ true)
contains-filter p [] x c = absurd (contains-nothing x c)
contains-filter {A} p (y ∷ xs) x c = elim (cases_Bool (p y)) [
  | inl passes ↦ elim (contains-cases y (filter p xs) x (subst (λ (ys : List A). Contains ys x)
      (cond-true (p y) (y ∷ filter p xs) (filter p xs) passes) c)) [
        | inl here ↦ ((0, omega arith, here), sym (ap p here) ∙ passes)
        | inr later ↦ (let found = contains-filter p xs x later in (contains-later y xs x found.0, found.1))
      ]
  | inr fails ↦ (let found = contains-filter p xs x (subst (λ (ys : List A). Contains ys x)
      (cond-false (p y) (y ∷ filter p xs) (filter p xs) fails) c) in (contains-later y xs x found.0, found.1))
]

pub contains-filter-from : {A : Type 0} (p : A → Bool) (xs : List A) (x : A) → Contains xs x → p x ≡ true → Contains (filter p xs) x
contains-filter-from p [] x c e = absurd (contains-nothing x c)
contains-filter-from {A} p (y ∷ xs) x c e = elim (contains-cases y xs x c) [
  | inl here ↦ subst (λ (ys : List A). Contains ys x) (sym (cond-true (p y) (y ∷ filter p xs) (filter p xs) (ap p here ∙ e)))
      (0, omega arith, here)
  | inr later ↦ elim (cases_Bool (p y)) [
    | inl passes ↦ subst (λ (ys : List A). Contains ys x) (sym (cond-true (p y) (y ∷ filter p xs) (filter p xs) passes))
        (contains-later y (filter p xs) x (contains-filter-from p xs x later e))
    | inr fails ↦ subst (λ (ys : List A). Contains ys x) (sym (cond-false (p y) (y ∷ filter p xs) (filter p xs) fails))
        (contains-filter-from p xs x later e)
  ]
]

pub contains-filter_map : {A B : Type 0} (h : A → Option B) (xs : List A) (y : B) → Contains (filter_map h xs) y → (x : A) × Contains xs x
    × (h x ≡ Some y)
contains-filter_map h [] y c = absurd (contains-nothing y c)
contains-filter_map {A} {B} h (x ∷ xs) y c = by_value (λ d. contains-filter_map h xs y d) (h x) refl c
  where
    by_value : (Contains (filter_map h xs) y → (x : A) × Contains xs x × (h x ≡ Some y)) → (o : Option B) → h x ≡ o
        → Contains (cons_option o (filter_map h xs)) y → (z : A) × Contains (x ∷ xs) z × (h z ≡ Some y)
    by_value again None e c = (let found = again c in (found.0, contains-later x xs found.0 found.1, found.2))
    by_value again (Some z) e c = elim (contains-cases z (filter_map h xs) y c) [
      | inl here ↦ (x, contains-here x xs, e ∙ ap (λ (b : B). Some b) here)
      | inr later ↦ (let found = again later in (found.0, contains-later x xs found.0 found.1, found.2))
    ]

pub contains-filter_map-from : {A B : Type 0} (h : A → Option B) (xs : List A) (x : A) (y : B) → Contains xs x → h x ≡ Some y
    → Contains (filter_map h xs) y
contains-filter_map-from h [] x y c e = absurd (contains-nothing x c)
contains-filter_map-from {A} {B} h (z ∷ xs) x y c e = by_value (λ d. contains-filter_map-from h xs x y d e) (h z) refl
    (contains-cases z xs x c)
  where
    by_value : (Contains xs x → Contains (filter_map h xs) y) → (o : Option B) → h z ≡ o → (z ≡ x) ⊎ Contains xs x
        → Contains (cons_option o (filter_map h xs)) y
    by_value again None is (inl here) = absurd (let both = sym is ∙ ap h here ∙ e in cc)
    by_value again None is (inr later) = again later
    by_value again (Some w) is (inl here) = (let both = sym is ∙ ap h here ∙ e in (0, omega arith, some_is w y both))
      where
        some_is : (a b : B) → (let told : B → Option B = λ t. Some t in told a ≡ told b) → a ≡ b
        some_is a b e = cc
    by_value again (Some w) is (inr later) = contains-later w (filter_map h xs) y (again later)
