-- Polynomials of 1,024 coefficients, the lowest first, where x^1024 = -1.
use Rattle.std.specs.Prelude.{◌≡◌, ℕ, zero, suc, ◌+◌, ◌-◌, ◌<◌, ◌≤◌, List, length, map, slice_index, slice_index_or, All, ℤ, pos, ◌+ℤ◌, ◌-ℤ◌, unsigned_abs, neg_ℤ, nat_le, if◌then◌else◌}
use Rattle.std.specs.List.{range_with_len}
use Rattle.std.proofs.Math.IntN.{◌*ℤ◌}
use Rattle.ring_poly.specs.declared.TheConstants.{DEGREE, MODULUS}
use Rattle.ring_poly.specs.Residue.{residue}

-- 1,024 numbers below 12289
pub record IsPolynomial (f : List ℕ) : Type 0 where
  pub length : length f ≡ DEGREE
  pub reduced : All (λ c. c < MODULUS) f

-- -1, 0 or 1
abbrev pub IsTrit : ℤ → Type 0
IsTrit c = unsigned_abs c ≤ 1

-- 1,024 numbers of -1, 0 and 1
pub record IsTernary (g : List ℤ) : Type 0 where
  pub length : length g ≡ DEGREE
  pub trits : All IsTrit g

-- the 1,024 values F 0, F 1, .., F 1023
unfoldable pub by_place : {X : Type 0} → (ℕ → X) → List X
by_place F = map F (range_with_len 0 DEGREE)

-- the sum F 0 + F 1 + .. + F (n - 1)
unfoldable pub total : ℕ → (ℕ → ℤ) → ℤ
total zero F = pos 0
total (suc n) F = total n F +ℤ F n

-- the coefficient at x^k, 0 past the end of the list
abbrev pub coefficient : List ℤ → ℕ → ℤ
coefficient f k = slice_index_or f k (pos 0)

-- the sum of f[j] g[i] over i + j = s
abbrev pub convolution : List ℤ → List ℤ → ℕ → ℤ
convolution f g s = total (s + 1) (λ i. coefficient f (s - i) *ℤ coefficient g i)

-- Place k of the product, not yet reduced: the sum of f[j] g[i] over i + j = k, less that over i + j = k + 1024.
abbrev pub product_at : List ℤ → List ℤ → ℕ → ℤ
product_at f g k = convolution f g k -ℤ convolution f g (k + DEGREE)

-- place k of x^i f, for i up to 1,024: what is pushed past the top comes back at the bottom with its sign turned
abbrev pub turned : List ℤ → ℕ → ℕ → ℤ
turned f i k = if nat_le i k then coefficient f (k - i) else neg_ℤ (coefficient f (k + DEGREE - i))

-- the product modulo 12289
unfoldable pub product_of : List ℕ → List ℤ → List ℕ
product_of f g = by_place (λ k. residue (product_at (map pos f) g k))

-- the sum and the difference modulo 12289, place by place
unfoldable pub sum_of : List ℕ → List ℕ → List ℕ
sum_of f g = by_place (λ k. residue (pos (slice_index f k) +ℤ pos (slice_index g k)))

unfoldable pub difference_of : List ℕ → List ℕ → List ℕ
difference_of f g = by_place (λ k. residue (pos (slice_index f k) -ℤ pos (slice_index g k)))

-- the sum of two polynomials over the integers
unfoldable pub signed_sum : List ℤ → List ℤ → List ℤ
signed_sum f g = by_place (λ k. coefficient f k +ℤ coefficient g k)
