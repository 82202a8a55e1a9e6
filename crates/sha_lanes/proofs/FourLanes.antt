-- What is shown of each lane by showing it of the four.
use Rattle.std.proofs.Common.{◌≡◌, ℕ, zero, suc, ◌-◌, ◌*◌, ◌/◌, ◌%◌, ◌^◌, ◌<◌, List, [], ◌∷◌, ◌++◌, length, map, slice_index, slice_index_or, bit_and, bit_or, bit_xor, refl, sym, arith}
use Rattle.std.specs.Int.{w32, bit_not, rotate_right}
use Rattle.sha2.specs.Sha256.{ch, maj}
use Rattle.std.proofs.lemmas.Simd.{Each1-get_or, below_from_Fits}
use lib.Lanes.{Each1, zip2}
use mir.Val.{Fits}
use Rattle.sha_lanes.specs.Lanes.{lane}
use Rattle.sha_lanes.proofs.Rotations.{maj_short}

pub each_lane : (P : ℕ → Type 0) → P 0 → P 1 → P 2 → P 3 → (j : ℕ) → j < 4 → P j
each_lane P a b c d zero h = a
each_lane P a b c d (suc zero) h = b
each_lane P a b c d (suc (suc zero)) h = c
each_lane P a b c d (suc (suc (suc zero))) h = d
each_lane P a b c d (suc (suc (suc (suc n)))) h = absurd (omega arith)

-- a number in each lane
pub splat-lane : (n j : ℕ) → j < 4 → slice_index (n ∷ n ∷ n ∷ n ∷ []) j ≡ n
splat-lane n = each_lane _ refl refl refl refl

-- a list of four is its elements
pub of_four : {X : Type 0} (P : List X → Type 0) → ((a b c d : X) → P (a ∷ b ∷ c ∷ d ∷ [])) → (xs : List X) → length xs ≡ 4 → P xs
of_four P p [] h = absurd (omega arith)
of_four P p (a ∷ []) h = absurd (omega arith)
of_four P p (a ∷ b ∷ []) h = absurd (omega arith)
of_four P p (a ∷ b ∷ c ∷ []) h = absurd (omega arith)
of_four P p (a ∷ b ∷ c ∷ d ∷ []) h = p a b c d
of_four P p (a ∷ b ∷ c ∷ d ∷ e ∷ xs) h = absurd (omega arith)

pub four_items : (xs : List (List ℕ)) → length xs ≡ 4
    → xs ≡ slice_index_or xs 0 [] ∷ slice_index_or xs 1 [] ∷ slice_index_or xs 2 [] ∷ slice_index_or xs 3 [] ∷ []
four_items =
    of_four (λ xs. xs ≡ slice_index_or xs 0 [] ∷ slice_index_or xs 1 [] ∷ slice_index_or xs 2 [] ∷ slice_index_or xs 3 [] ∷ []) (λ a b c d. refl)

pub four_numbers : (xs : List ℕ) → length xs ≡ 4
    → xs ≡ slice_index xs 0 ∷ slice_index xs 1 ∷ slice_index xs 2 ∷ slice_index xs 3 ∷ []
four_numbers = of_four (λ xs. xs ≡ slice_index xs 0 ∷ slice_index xs 1 ∷ slice_index xs 2 ∷ slice_index xs 3 ∷ []) (λ a b c d. refl)

-- two lists of four after each other, element by element
pub joined_fours : (xs ys : List ℕ) → length xs ≡ 4 → length ys ≡ 4
    → slice_index xs 0 ∷ slice_index xs 1 ∷ slice_index xs 2 ∷ slice_index xs 3
    ∷ slice_index ys 0 ∷ slice_index ys 1 ∷ slice_index ys 2 ∷ slice_index ys 3 ∷ [] ≡ xs ++ ys
joined_fours xs ys four_x four_y = sym (λ i. four_numbers xs four_x i ++ four_numbers ys four_y i)

-- a lane of eight vectors, from its halves
pub halves-lane : (words : List (List ℕ)) → length words ≡ 8 → (j : ℕ)
    → lane j (slice_index_or words 0 [] ∷ slice_index_or words 1 [] ∷ slice_index_or words 2 [] ∷ slice_index_or words 3 [] ∷ [])
    ++ lane j (slice_index_or words 4 [] ∷ slice_index_or words 5 [] ∷ slice_index_or words 6 [] ∷ slice_index_or words 7 [] ∷ [])
    ≡ lane j words
halves-lane [] h j = absurd (omega arith)
halves-lane (a ∷ []) h j = absurd (omega arith)
halves-lane (a ∷ b ∷ []) h j = absurd (omega arith)
halves-lane (a ∷ b ∷ c ∷ []) h j = absurd (omega arith)
halves-lane (a ∷ b ∷ c ∷ d ∷ rest) h j =
    of_four (λ rest. slice_index a j ∷ slice_index b j ∷ slice_index c j ∷ slice_index d j
    ∷ slice_index (slice_index_or rest 0 []) j ∷ slice_index (slice_index_or rest 1 []) j
    ∷ slice_index (slice_index_or rest 2 []) j ∷ slice_index (slice_index_or rest 3 []) j ∷ []
    ≡ lane j (a ∷ b ∷ c ∷ d ∷ rest)) (λ e f g k. refl) rest (omega arith)

abbrev ShiftsRight : ℕ → List ℕ → Type 0
ShiftsRight k xs = (j : ℕ) → j < 4 → slice_index (zip2 (λ x n. x / 2 ^ n) xs (k ∷ k ∷ k ∷ k ∷ [])) j ≡ slice_index xs j / 2 ^ k

pub shifts_right : (k : ℕ) → k < 32 → (xs : List ℕ) → length xs ≡ 4 → ShiftsRight k xs
shifts_right k high = of_four (ShiftsRight k) (λ a b c d. each_lane _ refl refl refl refl)

abbrev Rotates : ℕ → List ℕ → Type 0
Rotates k xs = (j : ℕ) → j < 4
    → slice_index (zip2 bit_or
    (zip2 (λ x n. x / 2 ^ n) xs (k ∷ k ∷ k ∷ k ∷ []))
    (zip2 (λ x n. x * 2 ^ n % 2 ^ 32) xs ((32 - k) ∷ (32 - k) ∷ (32 - k) ∷ (32 - k) ∷ []))) j
    ≡ rotate_right w32 (slice_index xs j) k

-- a shift to the right, or a shift to the left, is a rotation
pub shifts_rotate : (k : ℕ) → 0 < k → k < 32 → (xs : List ℕ) → length xs ≡ 4 → Rotates k xs
shifts_rotate k low high =
    let right : k % 32 ≡ k = omega arith in
    let left : (32 - k) % 32 ≡ 32 - k = omega arith in
    of_four (Rotates k) (λ a b c d.
    each_lane _ (rw (right, left) refl) (rw (right, left) refl) (rw (right, left) refl) (rw (right, left) refl))

-- three lists of four are their elements
of_three_fours : (P : List ℕ → List ℕ → List ℕ → Type 0)
    → ((a b c d e f g h k l m n : ℕ) → P (a ∷ b ∷ c ∷ d ∷ []) (e ∷ f ∷ g ∷ h ∷ []) (k ∷ l ∷ m ∷ n ∷ []))
    → (xs : List ℕ) → length xs ≡ 4 → (ys : List ℕ) → length ys ≡ 4 → (zs : List ℕ) → length zs ≡ 4 → P xs ys zs
of_three_fours P p =
    of_four (λ xs. (ys : List ℕ) → length ys ≡ 4 → (zs : List ℕ) → length zs ≡ 4 → P xs ys zs) (λ a b c d.
    of_four (λ ys. (zs : List ℕ) → length zs ≡ 4 → P (a ∷ b ∷ c ∷ d ∷ []) ys zs) (λ e f g h.
    of_four (P (a ∷ b ∷ c ∷ d ∷ []) (e ∷ f ∷ g ∷ h ∷ [])) (p a b c d e f g h)))

abbrev Chooses : List ℕ → List ℕ → List ℕ → Type 0
Chooses xs ys zs = (j : ℕ) → j < 4
    → slice_index (zip2 bit_xor (zip2 bit_and xs ys) (zip2 bit_and (map (bit_not w32) xs) zs)) j
    ≡ ch (slice_index xs j) (slice_index ys j) (slice_index zs j)

pub chooses : (xs : List ℕ) → length xs ≡ 4 → (ys : List ℕ) → length ys ≡ 4 → (zs : List ℕ) → length zs ≡ 4 → Chooses xs ys zs
chooses = of_three_fours Chooses (λ a b c d e f g h k l m n. each_lane _ refl refl refl refl)

abbrev HasMajority : List ℕ → List ℕ → List ℕ → Type 0
HasMajority xs ys zs = (j : ℕ) → j < 4
    → slice_index (zip2 bit_xor ys (zip2 bit_and (zip2 bit_xor xs ys) (zip2 bit_xor ys zs))) j
    ≡ maj (slice_index xs j) (slice_index ys j) (slice_index zs j)

pub has_majority : (xs : List ℕ) → length xs ≡ 4 → (ys : List ℕ) → length ys ≡ 4 → (zs : List ℕ) → length zs ≡ 4 → HasMajority xs ys zs
has_majority =
    of_three_fours HasMajority (λ a b c d e f g h k l m n. each_lane _ (maj_short a e k) (maj_short b f l) (maj_short c g m) (maj_short d h n))

-- each lane is a word
pub lane-lt : (xs : List ℕ) → (length xs ≡ 4) × Each1 (Fits w32) xs → (j : ℕ) → j < 4 → slice_index xs j < 2 ^ 32
lane-lt xs fits j below = Each1-get_or (λ x. x < 2 ^ 32) xs j 0 (omega (arith, fits.0)) (below_from_Fits w32 xs fits.1)
