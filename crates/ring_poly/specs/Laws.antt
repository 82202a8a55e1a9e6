-- What holds of products, packings and sizes, whatever computes them.
use Rattle.std.specs.Prelude.{◌≡◌, ℕ, ◌*◌, ◌<◌, ◌≤◌, List, length, map, slice_index, All, ℤ, pos, ◌-ℤ◌, unsigned_abs, Ok, Err, ◌↔◌}
use Rattle.ring_poly.specs.declared.TheConstants.{DEGREE, MODULUS}
use Rattle.ring_poly.specs.Residue.{residue}
use Rattle.ring_poly.specs.Packing.{packed, unpacked, read_packed}
use Rattle.ring_poly.specs.declared.packing.CoefficientTooLarge.{CoefficientTooLarge}
use Rattle.ring_poly.specs.Product.{IsTernary, product_at, product_of, sum_of, signed_sum}

-- the product of a sum is the sum of the products
abbrev pub ProductAddsInFirst : Type 0
ProductAddsInFirst = (f g : List ℕ) (t : List ℤ) → length f ≡ DEGREE → length g ≡ DEGREE
    → product_of (sum_of f g) t ≡ sum_of (product_of f t) (product_of g t)

abbrev pub ProductAddsInSecond : Type 0
ProductAddsInSecond = (f : List ℕ) (s t : List ℤ) → length s ≡ DEGREE → length t ≡ DEGREE
    → product_of f (signed_sum s t) ≡ sum_of (product_of f s) (product_of f t)

-- the order of two factors is free
abbrev pub FactorsCommute : Type 0
FactorsCommute = (f : List ℕ) (s t : List ℤ) → length f ≡ DEGREE → length s ≡ DEGREE → length t ≡ DEGREE
    → product_of (product_of f s) t ≡ product_of (product_of f t) s

-- Coefficients of at most m in size, times a ternary polynomial, are at most 1024 m in size.
abbrev pub ProductIsSmall : Type 0
ProductIsSmall = (f t : List ℤ) (m k : ℕ) → length f ≡ DEGREE → All (λ c. unsigned_abs c ≤ m) f → IsTernary t → k < DEGREE
    → unsigned_abs (product_at f t k) ≤ DEGREE * m

-- For b = a s + e and u = a r + d, what is left of b r - u s is e r - d s: the products with a cancel.
abbrev pub MaskCancels : Type 0
MaskCancels = (a : List ℕ) (s r e d : List ℤ) (k : ℕ) → length a ≡ DEGREE → length s ≡ DEGREE → length r ≡ DEGREE → length e ≡ DEGREE
    → length d ≡ DEGREE → k < DEGREE →
    let b = sum_of (product_of a s) (map residue e) in
    let u = sum_of (product_of a r) (map residue d) in
    residue (pos (slice_index (product_of b r) k) -ℤ pos (slice_index (product_of u s) k)) ≡ residue (product_at e r k -ℤ product_at d s k)

-- n groups of coefficients are packed into n groups of seven bytes, which are read as those coefficients
abbrev pub PackedIsReadBack : Type 0
PackedIsReadBack = (n : ℕ) (f : List ℕ) → length f ≡ 4 * n → All (λ c. c < MODULUS) f → (length (packed f) ≡ 7 * n)
    × (read_packed (packed f) ≡ Ok f)

-- bytes that are read are the packing of what they are read as: there is no second spelling
abbrev pub ReadIsPackedBack : Type 0
ReadIsPackedBack = (n : ℕ) (bytes f : List ℕ) → length bytes ≡ 7 * n → All (λ b. b < 256) bytes → read_packed bytes ≡ Ok f →
    (length f ≡ 4 * n) × All (λ c. c < MODULUS) f × (packed f ≡ bytes)

-- what a refusal names: the least place of a number of 12289 or more, and that number
abbrev pub NamesLeast : List ℕ → CoefficientTooLarge → Type 0
NamesLeast numbers refusal =
    (refusal.place < length numbers) × (slice_index numbers refusal.place ≡ refusal.value) × (MODULUS ≤ refusal.value)
    × ((k : ℕ) → k < refusal.place → slice_index numbers k < MODULUS)

abbrev pub RefusalNamesLeast : Type 0
RefusalNamesLeast = (bytes : List ℕ) (refusal : CoefficientTooLarge)
    → (read_packed bytes ≡ Err refusal) ↔ NamesLeast (unpacked bytes) refusal
