-- The product as a sum of rows, one for each coefficient of the second factor.
use Rattle.std.proofs.Common.{◌≡◌, ℕ, ◌+◌, ◌-◌, ◌^◌, ◌<◌, ◌≤◌, List, length, get_or, map, refl, sym, ap, arith, ◌∙◌, ℤ, pos, ◌+ℤ◌, unsigned_abs, ⊎_elim, neg_ℤ, take, drop, ◌++◌}
use Rattle.std.proofs.Math.IntN.{◌*ℤ◌, *ℤ_comm}
use borrow.Rule.Slice.PartMut.{put_mid, mid_of, post_of}
use Rattle.std.proofs.lemmas.Int.{unsigned_abs-mul}
use Rattle.std.proofs.lemmas.List.{get_or_past, get_or_append_left, get_or-append_right, get_or-take, get_or-drop, length-take-le, length-drop, length-append}
use Rattle.std.proofs.lemmas.Slice.{take-put_mid_below}
use Rattle.std.proofs.lemmas.Bool.{cases_lt}
use Rattle.std.proofs.lemmas.Nat.{mul-le}
use Rattle.ring_poly.specs.Product.{IsPolynomial, IsTernary, coefficient, product_at, total, turned}
use Rattle.ring_poly.proofs.Integers.{abs-neg, neg-mul}
use Rattle.ring_poly.proofs.Sums.{total-suc, total_size}
use Rattle.ring_poly.proofs.Turns.{turned-front, turned-back, product_at_turned}
use Rattle.ring_poly.proofs.Products.{coefficient-pos}

-- place k of the first n rows
unfoldable pub row_sum : List ℤ → List ℤ → ℕ → ℕ → ℤ
row_sum f g n k = total n (λ i. turned f i k *ℤ coefficient g i)

pub row_sum-none : (f g : List ℤ) (k : ℕ) → row_sum f g 0 k ≡ pos 0
unfolding row_sum total
row_sum-none f g k = refl

pub row_sum-more : (f g : List ℤ) (n k : ℕ) → row_sum f g (n + 1) k ≡ row_sum f g n k +ℤ (turned f n k *ℤ coefficient g n)
unfolding row_sum
row_sum-more f g n k = total-suc n (λ i. turned f i k *ℤ coefficient g i)

pub row_sum-all : (f g : List ℤ) (k : ℕ) → length f ≤ 1024 → length g ≤ 1024 → k < 1024 → product_at f g k ≡ row_sum f g 1024 k
unfolding row_sum
row_sum-all f g k a b h = product_at_turned f g a b k h

small_coefficient : (a : List ℕ) → IsPolynomial a → (k : ℕ) → unsigned_abs (coefficient (map pos a) k) ≤ 12288
small_coefficient a p k = rw (coefficient-pos a k) (⊎_elim
    (λ (h : k < length a). omega (arith, p.reduced k 0 h))
    (λ (h : length a ≤ k). rw (get_or_past a k 0 h) (omega arith))
    (cases_lt k (length a)))

small_trit : (b : List ℤ) → IsTernary b → (k : ℕ) → unsigned_abs (coefficient b k) ≤ 1
small_trit b t k = ⊎_elim
    (λ (h : k < length b). t.trits k (pos 0) h)
    (λ (h : length b ≤ k). rw (get_or_past b k (pos 0) h) (omega arith))
    (cases_lt k (length b))

small_turned : (a : List ℕ) → IsPolynomial a → (i k : ℕ) → unsigned_abs (turned (map pos a) i k) ≤ 12288
small_turned a p i k = ⊎_elim
    (λ (o : k < i). rw (turned-back (map pos a) i k o, abs-neg (coefficient (map pos a) (k + 1024 - i)))
    (small_coefficient a p (k + 1024 - i)))
    (λ (o : i ≤ k). rw (turned-front (map pos a) i k o) (small_coefficient a p (k - i)))
    (cases_lt k i)

pub row_sum-size : (a : List ℕ) (b : List ℤ) → IsPolynomial a → IsTernary b → (n k : ℕ) → n ≤ 1024
    → unsigned_abs (row_sum (map pos a) b n k) ≤ 2 ^ 30
unfolding row_sum
row_sum-size a b p t n k h =
    let all = total_size n 12288 (λ i. turned (map pos a) i k *ℤ coefficient b i) (λ i l.
    rw (unsigned_abs-mul (turned (map pos a) i k) (coefficient b i)) (
    let both = mul-le (unsigned_abs (turned (map pos a) i k)) (unsigned_abs (coefficient b i)) 12288 1 (small_turned a p i k)
    (small_trit b t i) in
    omega arith)) in
    omega arith

-- What the two halves of a row leave: ys is what stands from place r on after the first, zs what stands below it after the second.
module _ (xs ys zs : List ℤ) (a : List ℕ) (r : ℕ) (f : ℤ) where
  pub row_at : r < 1024 → length xs ≡ 1024 → length ys ≡ 1024 - r → length zs ≡ r →
      ((i : ℕ) → i < length ys → get_or ys i (pos 0) ≡ get_or (mid_of r (1024 - r) xs) i (pos 0) +ℤ
      (pos (get_or (take (1024 - r) a) i 0) *ℤ f)) →
      ((i : ℕ) → i < length zs → get_or zs i (pos 0) ≡ get_or (take r (put_mid r (1024 - r) xs ys)) i (pos 0) +ℤ
      (pos (get_or (mid_of (1024 - r) (1024 - (1024 - r)) a) i 0) *ℤ neg_ℤ f)) →
      (i : ℕ) → i < 1024 → get_or (zs ++ post_of 0 r (put_mid r (1024 - r) xs ys)) i (pos 0) ≡ get_or xs i (pos 0) +ℤ
      (turned (map pos a) r i *ℤ f)
  row_at h lx ly lz high low i inside = ⊎_elim
      (λ (o : i < r).
      let in_zs : i < length zs = omega arith in
      let start : get_or (take r (put_mid r (1024 - r) xs ys)) i (pos 0) ≡ get_or xs i (pos 0) =
      ap (λ l. get_or l i (pos 0)) (take-put_mid_below r (1024 - r) xs ys r (omega arith) (omega arith)) ∙ get_or-take r xs i (pos 0) o in
      let same : 1024 - r + i ≡ i + 1024 - r = omega arith in
      let term : get_or (mid_of (1024 - r) (1024 - (1024 - r)) a) i 0 ≡ get_or a (i + 1024 - r) 0 =
      get_or-take (1024 - (1024 - r)) (drop (1024 - r) a) i 0 (omega arith) ∙ get_or-drop (1024 - r) a i 0 ∙ ap (λ j. get_or a j 0) same in
      let turn : turned (map pos a) r i ≡ neg_ℤ (pos (get_or a (i + 1024 - r) 0)) =
      turned-back (map pos a) r i o ∙ ap neg_ℤ (coefficient-pos a (i + 1024 - r)) in
      let t = pos (get_or a (i + 1024 - r) 0) in
      get_or_append_left zs (post_of 0 r (put_mid r (1024 - r) xs ys)) (pos 0) i in_zs
      ∙ low i in_zs
      ∙ rw (start, term, turn) (ap (λ y. get_or xs i (pos 0) +ℤ y)
      (*ℤ_comm t (neg_ℤ f) ∙ neg-mul f t ∙ ap neg_ℤ (*ℤ_comm f t) ∙ sym (neg-mul t f))))
      (λ (o : r ≤ i).
      let in_ys : i - r < length ys = omega arith in
      let back : r + (i - r) ≡ i = omega arith in
      let start : get_or (mid_of r (1024 - r) xs) (i - r) (pos 0) ≡ get_or xs i (pos 0) =
      get_or-take (1024 - r) (drop r xs) (i - r) (pos 0) (omega arith) ∙ get_or-drop r xs (i - r) (pos 0)
      ∙ ap (λ j. get_or xs j (pos 0)) back in
      let term : get_or (take (1024 - r) a) (i - r) 0 ≡ get_or a (i - r) 0 = get_or-take (1024 - r) a (i - r) 0 (omega arith) in
      let turn : turned (map pos a) r i ≡ pos (get_or a (i - r) 0) = turned-front (map pos a) r i o ∙ coefficient-pos a (i - r) in
      let front : length (take r xs) ≡ r = length-take-le r xs (omega arith) in
      let read : get_or (post_of 0 r (put_mid r (1024 - r) xs ys)) (i - r) (pos 0) ≡ get_or ys (i - r) (pos 0) =
      get_or-drop r (put_mid r (1024 - r) xs ys) (i - r) (pos 0)
      ∙ ap (λ j. get_or (put_mid r (1024 - r) xs ys) j (pos 0)) back
      ∙ get_or-append_right (take r xs) (ys ++ post_of r (1024 - r) xs) r i (pos 0) front o
      ∙ get_or_append_left ys (post_of r (1024 - r) xs) (pos 0) (i - r) in_ys in
      get_or-append_right zs (post_of 0 r (put_mid r (1024 - r) xs ys)) r i (pos 0) lz o
      ∙ read ∙ high (i - r) in_ys ∙ rw (start, term, turn) refl)
      (cases_lt i r)

  pub high_long : r < 1024 → length xs ≡ 1024 → length (mid_of r (1024 - r) xs) ≡ 1024 - r
  high_long h lx = length-take-le (1024 - r) (drop r xs) (omega (arith, length-drop r xs))

  pub low_long : r < 1024 → length xs ≡ 1024 → length (take r (put_mid r (1024 - r) xs ys)) ≡ r
  low_long h lx = ap length (take-put_mid_below r (1024 - r) xs ys r (omega arith) (omega arith)) ∙ length-take-le r xs (omega arith)

  pub whole_long : r < 1024 → length xs ≡ 1024 → length ys ≡ 1024 - r → length zs ≡ r
      → length (zs ++ post_of 0 r (put_mid r (1024 - r) xs ys)) ≡ 1024
  whole_long h lx ly lz =
      let front = length-take-le r xs (omega arith) in
      let back = length-drop (1024 - r) (drop r xs) in
      let back2 = length-drop r xs in
      let middle = length-append ys (post_of r (1024 - r) xs) in
      let all = length-append (take r xs) (ys ++ post_of r (1024 - r) xs) in
      let rest = length-drop r (put_mid r (1024 - r) xs ys) in
      let sum = length-append zs (post_of 0 r (put_mid r (1024 - r) xs ys)) in
      omega arith
