-- A polynomial turned by powers of x, and products as sums of turned ones.
use Rattle.std.proofs.Common.{◌≡◌, ℕ, zero, suc, ◌+◌, ◌-◌, ◌/◌, ◌%◌, ◌<◌, ◌≤◌, List, length, refl, sym, ap, arith, ◌∙◌, ℤ, pos, neg_ℤ, ⊎_elim}
use Rattle.std.proofs.Math.IntN.{◌*ℤ◌, neg_ℤ-neg_ℤ}
use Rattle.std.proofs.lemmas.Int.{ints}
use Rattle.std.proofs.lemmas.List.{get_or_past}
use Rattle.std.proofs.lemmas.Bool.{cases_lt, le-leb, lt-leb}
use Rattle.ring_poly.specs.Product.{total, coefficient, convolution, product_at, turned}
use Rattle.ring_poly.proofs.Integers.{neg-mul, mul_comm_assoc, zero-mul, mul-zero}
use Rattle.ring_poly.proofs.Sums.{total_same, total_zero, total-neg, total-mul, total-split, total_swap}

pub turned-front : (f : List ℤ) (i k : ℕ) → i ≤ k → turned f i k ≡ coefficient f (k - i)
turned-front f i k h = rw (le-leb i k h) refl

pub turned-back : (f : List ℤ) (i k : ℕ) → k < i → turned f i k ≡ neg_ℤ (coefficient f (k + 1024 - i))
turned-back f i k h = rw (lt-leb i k h) refl

-- ---- the product as one sum of turned polynomials
module _ (f g : List ℤ) (short_f : length f ≤ 1024) (short_g : length g ≤ 1024) where
  low : (k : ℕ) → convolution f g k ≡ total (k + 1) (λ i. turned f i k *ℤ coefficient g i)
  low k = total_same (k + 1) (λ i. coefficient f (k - i) *ℤ coefficient g i) (λ i. turned f i k *ℤ coefficient g i)
      (λ i l. ap (λ x. x *ℤ coefficient g i) (sym (turned-front f i k (omega arith))))

  -- the part of the sum past x^1023 that is not 0
  middle : (k n : ℕ) → k + 1 + n ≡ 1024 → convolution f g (k + 1024) ≡ total n
      (λ i. coefficient f (k + 1024 - (k + 1 + i)) *ℤ coefficient g (k + 1 + i))
  middle k n e =
      let U : ℕ → ℤ = λ i. coefficient f (k + 1024 - i) *ℤ coefficient g i in
      let first : total (k + 1) U ≡ pos 0 = total_zero (k + 1) U (λ i l.
      ap (λ x. x *ℤ coefficient g i) (get_or_past f (k + 1024 - i) (pos 0) (omega arith)) ∙ zero-mul (coefficient g i)) in
      let last : total (k + 1) (λ i. U (k + 1 + n + i)) ≡ pos 0 = total_zero (k + 1) (λ i. U (k + 1 + n + i)) (λ i l.
      ap (λ x. coefficient f (k + 1024 - (k + 1 + n + i)) *ℤ x) (get_or_past g (k + 1 + n + i) (pos 0) (omega arith))
      ∙ mul-zero (coefficient f (k + 1024 - (k + 1 + n + i)))) in
      let cut = total-split (k + 1 + n) (k + 1) U in
      let cut2 = total-split (k + 1) n U in
      let size : k + 1024 + 1 ≡ k + 1 + n + (k + 1) = omega arith in
      rw size (omega (arith, ints))

  pub product_at_turned : (k : ℕ) → k < 1024 → product_at f g k ≡ total 1024 (λ i. turned f i k *ℤ coefficient g i)
  product_at_turned k h =
      let n = 1023 - k in
      let T : ℕ → ℤ = λ i. turned f i k *ℤ coefficient g i in
      let V : ℕ → ℤ = λ i. coefficient f (k + 1024 - (k + 1 + i)) *ℤ coefficient g (k + 1 + i) in
      let whole : k + 1 + n ≡ 1024 = omega arith in
      let cut = total-split (k + 1) n T in
      let back : total n (λ i. T (k + 1 + i)) ≡ neg_ℤ (total n V) =
      total_same n (λ i. T (k + 1 + i)) (λ i. neg_ℤ (V i)) (λ i l.
      ap (λ x. x *ℤ coefficient g (k + 1 + i)) (turned-back f (k + 1 + i) k (omega arith))
      ∙ neg-mul (coefficient f (k + 1024 - (k + 1 + i))) (coefficient g (k + 1 + i)))
      ∙ total-neg n V in
      let part = low k in
      let rest = middle k n whole in
      let size : total 1024 T ≡ total (k + 1 + n) T = ap (λ m. total m T) (sym whole) in
      omega (arith, ints)

-- ---- turned polynomials past x^1023
unfoldable pub alternate : ℕ → ℤ → ℤ
alternate zero z = z
alternate (suc q) z = neg_ℤ (alternate q z)

-- the coefficients over and over, with the sign turned every 1,024 places
unfoldable pub extended : List ℤ → ℕ → ℤ
extended f m = alternate (m / 1024) (coefficient f (m % 1024))

pub extended-low : (f : List ℤ) (k : ℕ) → k < 1024 → extended f k ≡ coefficient f k
unfolding extended alternate
extended-low f k h =
    let a : k / 1024 ≡ 0 = omega arith in
    let b : k % 1024 ≡ k = omega arith in
    rw (a, b) refl

pub extended-turn : (f : List ℤ) (m : ℕ) → extended f (m + 1024) ≡ neg_ℤ (extended f m)
unfolding extended alternate
extended-turn f m =
    let a : (m + 1024) / 1024 ≡ suc (m / 1024) = omega arith in
    let b : (m + 1024) % 1024 ≡ m % 1024 = omega arith in
    rw (a, b) refl

-- F turns its sign every 1,024 places
abbrev pub Turns : (ℕ → ℤ) → Type 0
Turns F = (m : ℕ) → F (m + 1024) ≡ neg_ℤ (F m)

-- place x of F times g, where F turns
unfoldable pub spread : (ℕ → ℤ) → List ℤ → ℕ → ℤ
spread F g x = total 1024 (λ j. F (x + 2048 - j) *ℤ coefficient g j)

twice : (F : ℕ → ℤ) → Turns F → (m : ℕ) → F (m + 2048) ≡ F m
twice F t m =
    let e : m + 2048 ≡ m + 1024 + 1024 = omega arith in
    ap F e ∙ t (m + 1024) ∙ ap neg_ℤ (t m) ∙ neg_ℤ-neg_ℤ (F m)

pub turned-extended : (f : List ℤ) (i k : ℕ) → i < 1024 → k < 1024 → turned f i k ≡ extended f (k + 2048 - i)
turned-extended f i k h l = ⊎_elim
    (λ (o : k < i).
    let e : k + 2048 - i ≡ k + 1024 - i + 1024 = omega arith in
    turned-back f i k o ∙ sym (ap (extended f) e ∙ extended-turn f (k + 1024 - i) ∙ ap neg_ℤ (extended-low f (k + 1024 - i) (omega arith))))
    (λ (o : i ≤ k).
    let e : k + 2048 - i ≡ k - i + 2048 = omega arith in
    turned-front f i k o ∙ sym (ap (extended f) e ∙ twice (extended f) (extended-turn f) (k - i) ∙ extended-low f (k - i) (omega arith)))
    (cases_lt k i)

pub spread-turn : (F : ℕ → ℤ) (g : List ℤ) → Turns F → Turns (spread F g)
unfolding spread
spread-turn F g t x =
    total_same 1024 (λ j. F (x + 1024 + 2048 - j) *ℤ coefficient g j) (λ j. neg_ℤ (F (x + 2048 - j) *ℤ coefficient g j)) (λ j l.
    let e : x + 1024 + 2048 - j ≡ x + 2048 - j + 1024 = omega arith in
    ap (λ y. y *ℤ coefficient g j) (ap F e ∙ t (x + 2048 - j)) ∙ neg-mul (F (x + 2048 - j)) (coefficient g j))
    ∙ total-neg 1024 (λ j. F (x + 2048 - j) *ℤ coefficient g j)

pub product_at_spread : (f g : List ℤ) → length f ≤ 1024 → length g ≤ 1024 → (k : ℕ) → k < 1024 → product_at f g k ≡ spread (extended f) g k
unfolding spread
product_at_spread f g a b k h =
    product_at_turned f g a b k h
    ∙ total_same 1024 (λ i. turned f i k *ℤ coefficient g i) (λ i. extended f (k + 2048 - i) *ℤ coefficient g i) (λ i l.
    ap (λ y. y *ℤ coefficient g i) (turned-extended f i k l h))

-- F times g and then h is F times h and then g
pub spread_comm : (F : ℕ → ℤ) (g h : List ℤ) (x : ℕ) → spread (spread F g) h x ≡ spread (spread F h) g x
unfolding spread
spread_comm F g h x =
    let A : ℕ → ℕ → ℤ = λ i j. (F (x + 2048 - i + 2048 - j) *ℤ coefficient g j) *ℤ coefficient h i in
    let B : ℕ → ℕ → ℤ = λ j i. (F (x + 2048 - j + 2048 - i) *ℤ coefficient h i) *ℤ coefficient g j in
    total_same 1024 (λ i. total 1024 (λ j. F (x + 2048 - i + 2048 - j) *ℤ coefficient g j) *ℤ coefficient h i)
    (λ i. total 1024 (λ j. A i j)) (λ i l.
    sym (total-mul 1024 (λ j. F (x + 2048 - i + 2048 - j) *ℤ coefficient g j) (coefficient h i)))
    ∙ total_swap 1024 1024 A
    ∙ total_same 1024 (λ j. total 1024 (λ i. A i j)) (λ j. total 1024 (λ i. F (x + 2048 - j + 2048 - i) *ℤ coefficient h i) *ℤ coefficient g
    j) (λ j l.
    total_same 1024 (λ i. A i j) (λ i. B j i) (λ i m.
    let e : x + 2048 - i + 2048 - j ≡ x + 2048 - j + 2048 - i = omega arith in
    mul_comm_assoc (F (x + 2048 - i + 2048 - j)) (coefficient g j) (coefficient h i)
    ∙ ap (λ y. (F y *ℤ coefficient h i) *ℤ coefficient g j) e)
    ∙ total-mul 1024 (λ i. F (x + 2048 - j + 2048 - i) *ℤ coefficient h i) (coefficient g j))
