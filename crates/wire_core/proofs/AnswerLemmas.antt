-- The laws of answers: the first of a list, and results one after the other.
use Rattle.std.proofs.Common.{◌≡◌, ℕ, zero, suc, ◌+◌, ◌<◌, ◌≤◌, ◌⊎◌, inl, inr, Bool, true, false, cond, List, ◌∷◌, Option, Some, None, Result, Ok, Err, map, refl, ap, arith}
use Rattle.std.specs.Option.{option_map}
use Rattle.std.specs.List.{range_with_len}
use Rattle.std.proofs.lemmas.Bool.{cases_lt}
use Rattle.wire_core.specs.Answers.{first_some, first_below, fault_unless, value_unless, unless, ◌>>=◌, fault_as}

-- ---- the first answer of a list

-- an answer stands before others,
pub first_some-some : {A : Type 0} (x : A) (o : Option A) (others : List (Option A)) → o ≡ Some x → first_some (o ∷ others) ≡ Some x
first_some-some x (Some y) others e = e
first_some-some x None others e = absurd cc

-- or none does
pub first_some-none : {A : Type 0} (o : Option A) (others : List (Option A)) → o ≡ None → first_some (o ∷ others) ≡ first_some others
first_some-none None others e = refl
first_some-none (Some y) others e = absurd cc

-- where there is no answer, the first is none, and the others give none
pub first_some-none_parts : {A : Type 0} (o : Option A) (others : List (Option A)) → first_some (o ∷ others) ≡ None → (o ≡ None)
    × (first_some others ≡ None)
first_some-none_parts None others e = (refl, e)
first_some-none_parts (Some y) others e = absurd cc

-- an answer is that of the first, or the first gives none and it is that of the others
pub first_some-some_parts : {A : Type 0} (o : Option A) (others : List (Option A)) (x : A) → first_some (o ∷ others) ≡ Some x → (o ≡ Some x)
    ⊎ ((o ≡ None) × (first_some others ≡ Some x))
first_some-some_parts None others x e = inr (refl, e)
first_some-some_parts (Some y) others x e = inl e

-- ---- the first answer to the numbers from a on

first_from-none : {A : Type 0} (f : ℕ → Option A) (a n : ℕ) → ((k : ℕ) → a ≤ k → k < a + n → f k ≡ None)
    → first_some (map f (range_with_len a n)) ≡ None
first_from-none f a zero h = refl
first_from-none f a (suc n) h =
    let here : f a ≡ None = h a (omega arith) (omega arith) in
    rw (first_some-none (f a) (map f (range_with_len (a + 1) n)) here)
    (first_from-none f (a + 1) n (λ k le lt. h k (omega arith) (omega arith)))

first_from-some : {A : Type 0} (f : ℕ → Option A) (a n k : ℕ) (x : A) → a ≤ k → k < a + n → ((j : ℕ) → a ≤ j → j < k → f j ≡ None)
    → f k ≡ Some x → first_some (map f (range_with_len a n)) ≡ Some x
first_from-some f a zero k x le lt before here = absurd (omega arith)
first_from-some f a (suc n) k x le lt before here =
    elim (cases_lt a k) [
      | inl later ↦
          rw (first_some-none (f a) (map f (range_with_len (a + 1) n)) (before a (omega arith) later))
          (first_from-some f (a + 1) n k x (omega arith) (omega arith) (λ j le2 lt2. before j (omega arith) lt2) here)
      | inr now ↦ first_some-some x (f a) (map f (range_with_len (a + 1) n)) (let same : a ≡ k = omega arith in rw same here)
    ]

first_from-each : {A : Type 0} (f : ℕ → Option A) (a n : ℕ) → first_some (map f (range_with_len a n)) ≡ None → (k : ℕ) → a ≤ k → k < a + n
    → f k ≡ None
first_from-each f a zero e k le lt = absurd (omega arith)
first_from-each f a (suc n) e k le lt =
    let parts = first_some-none_parts (f a) (map f (range_with_len (a + 1) n)) e in
    elim (cases_lt a k) [
      | inl later ↦ first_from-each f (a + 1) n parts.1 k (omega arith) (omega arith)
      | inr now ↦ let same : k ≡ a = omega arith in rw same parts.0
    ]

-- where it is found
record IsFound {A : Type 0} (f : ℕ → Option A) (a n : ℕ) (x : A) : Type 0 where
  at : ℕ
  least : a ≤ at
  most : at < a + n
  gives : f at ≡ Some x
  before : (j : ℕ) → a ≤ j → j < at → f j ≡ None

first_from-found : {A : Type 0} (f : ℕ → Option A) (a n : ℕ) (x : A) → first_some (map f (range_with_len a n)) ≡ Some x → IsFound f a n x
first_from-found f a zero x e = absurd cc
first_from-found f a (suc n) x e =
    elim (first_some-some_parts (f a) (map f (range_with_len (a + 1) n)) x e) [
      | inl here ↦ record { at = a; least = omega arith; most = omega arith; gives = here; before = λ j le lt. absurd (omega arith) }
      | inr later ↦
          let found = first_from-found f (a + 1) n x later.1 in
          record {
            at = found.at;
            least = omega (arith, found.least);
            most = omega (arith, found.most);
            gives = found.gives;
            before = λ j le lt. none_from j found.at (later.0) found.before le lt;
          }
    ]
  where
    none_from : (j m : ℕ) → f a ≡ None → ((i : ℕ) → a + 1 ≤ i → i < m → f i ≡ None) → a ≤ j → j < m → f j ≡ None
    none_from j m first others le lt = elim (cases_lt a j) [
      | inl later ↦ others j (omega arith) lt
      | inr now ↦ let same : j ≡ a = omega
          arith in rw same first
    ]

-- ---- the first answer to the numbers below n

-- no number below n has an answer
pub first_below-none : {A : Type 0} (f : ℕ → Option A) (n : ℕ) → ((k : ℕ) → k < n → f k ≡ None) → first_below n f ≡ None
first_below-none f n h = first_from-none f 0 n (λ k le lt. h k (omega arith))

-- the number k has an answer, and none before it
pub first_below-some : {A : Type 0} (f : ℕ → Option A) (n k : ℕ) (x : A) → k < n → ((j : ℕ) → j < k → f j ≡ None) → f k ≡ Some x
    → first_below n f ≡ Some x
first_below-some f n k x lt before here = first_from-some f 0 n k x (omega arith) (omega arith) (λ j le lt2. before j lt2) here

-- where there is no answer, no number below n has one
pub first_below-each : {A : Type 0} (f : ℕ → Option A) (n : ℕ) → first_below n f ≡ None → (k : ℕ) → k < n → f k ≡ None
first_below-each f n e k lt = first_from-each f 0 n e k (omega arith) (omega arith)

-- where there is an answer, some number below n gives it, and none before that number has one
pub first_below-found : {A : Type 0} (f : ℕ → Option A) (n : ℕ) (x : A) → first_below n f ≡ Some x → (k : ℕ) × (k < n) × (f k ≡ Some x)
    × ((j : ℕ) → j < k → f j ≡ None)
first_below-found f n x e =
    let found = first_from-found f 0 n x e in
    (found.at, omega (arith, found.most), found.gives, λ j lt. found.before j (omega arith) lt)

-- ---- a fault unless a test passes

pub fault_unless-true : {A : Type 0} (b : Bool) (f : A) → b ≡ true → fault_unless b f ≡ None
fault_unless-true b f e = rw e refl

pub fault_unless-false : {A : Type 0} (b : Bool) (f : A) → b ≡ false → fault_unless b f ≡ Some f
fault_unless-false b f e = rw e refl

pub fault_unless-holds : {A : Type 0} (b : Bool) (f : A) → fault_unless b f ≡ None → b ≡ true
fault_unless-holds true f e = refl
fault_unless-holds false f e = absurd cc

-- ---- a value unless there is a fault

pub value_unless-ok : {A F : Type 0} (o : Option F) (v x : A) → value_unless o v ≡ Ok x → (o ≡ None) × (v ≡ x)
value_unless-ok None v x e = (refl, cc)
value_unless-ok (Some f) v x e = absurd cc

pub value_unless-err : {A F : Type 0} (o : Option F) (v : A) (f : F) → value_unless o v ≡ Err f → o ≡ Some f
value_unless-err None v f e = absurd cc
value_unless-err (Some g) v f e = let same : g ≡ f = cc in ap some same
  where
    some : {F : Type 0} → F → Option F
    some f = Some f

-- where a mapped value is missing, so is the value
pub nothing_mapped : {A B : Type 0} (f : A → B) (o : Option A) → option_map f o ≡ None → o ≡ None
nothing_mapped f None e = refl
nothing_mapped f (Some x) e = absurd cc

-- ---- results one after the other

-- two results in turn gave a value: so did each
pub bind_ok : {A B E : Type 0} (r : Result A E) (f : A → Result B E) (y : B) → (r >>= f) ≡ Ok y → (x : A) × (r ≡ Ok x) × (f x ≡ Ok y)
bind_ok (Ok x) f y e = (x, refl, e)
bind_ok (Err d) f y e = cc

-- a result whose fault is told otherwise gave a value: so did the result
pub fault_as_ok : {A E F : Type 0} (f : E → F) (r : Result A E) (x : A) → fault_as f r ≡ Ok x → r ≡ Ok x
fault_as_ok f (Ok y) x e = cc
fault_as_ok f (Err d) x e = cc

-- a test gave a value: it passed
pub guard_ok : {A E : Type 0} (bad : Bool) (d : E) (x y : A) → unless bad d x ≡ Ok y → (bad ≡ false) × (x ≡ y)
guard_ok true d x y e = cc
guard_ok false d x y e = (refl, cc)

-- which way a test went
pub chosen : {A : Type 0} (b : Bool) (x y z : A) → cond b x y ≡ z → ((b ≡ true) × (x ≡ z)) ⊎ ((b ≡ false) × (y ≡ z))
chosen true x y z e = inl (refl, e)
chosen false x y z e = inr (refl, e)
