-- Lists: what is made of a range, a test of each of some numbers, and joined lists.
use Rattle.std.proofs.Common.{◌≡◌, ℕ, zero, suc, ◌+◌, ◌<◌, ◌≤◌, Bool, false, ◌||◌, List, [], ◌∷◌, ◌++◌, length, map, refl, ap, arith, inl, inr}
use Rattle.std.specs.List.{list_any, range_with_len}
use Rattle.std.proofs.lemmas.Bool.{cases_lt, or_parts}

-- a test of what is mapped
pub list_any-map : {A B : Type 0} (p : B → Bool) (f : A → B) (xs : List A) → list_any p (map f xs) ≡ list_any (λ x. p (f x)) xs
list_any-map p f [] = refl
list_any-map p f (x ∷ xs) = ap (λ (b : Bool). p (f x) || b) (list_any-map p f xs)

-- no number of a range passes, where none is found
pub none_passes : (p : ℕ → Bool) (a n i : ℕ) → list_any p (range_with_len a n) ≡ false → a ≤ i → i < a + n → p i ≡ false
none_passes p a zero i e le lt = absurd (omega arith)
none_passes p a (suc n) i e le lt =
    let parts = or_parts (p a) (list_any p (range_with_len (a + 1) n)) e in
    elim (cases_lt a i) [
      | inl later ↦ none_passes p (a + 1) n i parts.1 (omega arith) (omega arith)
      | inr now ↦ let same : i ≡ a = omega arith in rw same parts.0
    ]

-- and none is found where none passes
pub pass_none : (p : ℕ → Bool) (a n : ℕ) → ((i : ℕ) → a ≤ i → i < a + n → p i ≡ false) → list_any p (range_with_len a n) ≡ false
pass_none p a zero h = refl
pass_none p a (suc n) h =
    rw (h a (omega arith) (omega arith)) (pass_none p (a + 1) n (λ i le lt. h i (omega arith) (omega arith)))

-- functions that agree on a range map it to one list
pub map-range : {A : Type 0} (f g : ℕ → A) (a n : ℕ) → ((m : ℕ) → a ≤ m → m < a + n → f m ≡ g m)
    → map f (range_with_len a n) ≡ map g (range_with_len a n)
map-range f g a zero each = refl
map-range f g a (suc n) each = rw (
  each a (omega arith) (omega arith),
  map-range f g (a + 1) n
      (λ m le lt. each m (omega arith) (omega arith)),
) refl

-- of two joined lists with fronts of one length the fronts and the rests are equal
pub split_once : {A : Type 0} (p q x y : List A) → length p ≡ length q → p ++ x ≡ q ++ y → (p ≡ q) × (x ≡ y)
split_once [] [] x y l e = (refl, e)
split_once [] (b ∷ q) x y l e = absurd (omega arith)
split_once (a ∷ p) [] x y l e = absurd (omega arith)
split_once (a ∷ p) (b ∷ q) x y l e =
    let tails : p ++ x ≡ q ++ y = cc in
    let below : length p ≡ length q = omega arith in
    let parts = split_once p q x y below tails in
    let heads : a ≡ b = cc in
    let fronts : p ≡ q = parts.0 in
    (cc, parts.1)
