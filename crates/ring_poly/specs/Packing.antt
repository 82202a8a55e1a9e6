-- Four coefficients of 14 bits in seven bytes.
use Rattle.std.specs.Prelude.{ℕ, ◌+◌, ◌*◌, ◌/◌, ◌%◌, ◌^◌, List, [], ◌∷◌, ◌++◌, Option, Some, None, Result, Ok, Err, nat_lt, if◌then◌else◌}
use Rattle.std.specs.Int.{bytes_low_first}
use Rattle.ring_poly.specs.declared.TheConstants.{MODULUS}
use Rattle.ring_poly.specs.declared.packing.CoefficientTooLarge.{CoefficientTooLarge}

-- four coefficients as one number of 56 bits, the first lowest
abbrev pub group_number : ℕ → ℕ → ℕ → ℕ → ℕ
group_number a b c d = a + b * 2 ^ 14 + c * 2 ^ 28 + d * 2 ^ 42

-- the coefficients in groups of four, each group as the seven bytes of its number, the lowest first
abbrev pub packed : List ℕ → List ℕ
packed (a ∷ b ∷ c ∷ d ∷ rest) = bytes_low_first 0 7 (group_number a b c d) ++ packed rest
packed _ = []

-- the number that seven bytes spell
abbrev pub spelled_number : ℕ → ℕ → ℕ → ℕ → ℕ → ℕ → ℕ → ℕ
spelled_number a b c d e f g = a + b * 2 ^ 8 + c * 2 ^ 16 + d * 2 ^ 24 + e * 2 ^ 32 + f * 2 ^ 40 + g * 2 ^ 48

-- the four numbers of 14 bits that make up a number of 56 bits
abbrev pub group_of : ℕ → List ℕ
group_of n = n % 2 ^ 14 ∷ n / 2 ^ 14 % 2 ^ 14 ∷ n / 2 ^ 28 % 2 ^ 14 ∷ n / 2 ^ 42 % 2 ^ 14 ∷ []

-- four numbers for every seven bytes, which may be too large for coefficients
abbrev pub unpacked : List ℕ → List ℕ
unpacked (a ∷ b ∷ c ∷ d ∷ e ∷ f ∷ g ∷ rest) = group_of (spelled_number a b c d e f g) ++ unpacked rest
unpacked _ = []

-- the first of these numbers that is 12289 or more, where the first stands at `place`
abbrev pub first_too_large : ℕ → List ℕ → Option CoefficientTooLarge
first_too_large place [] = None
first_too_large place (c ∷ rest) =
    if nat_lt c MODULUS then first_too_large (place + 1) rest else Some (record { place = place; value = c })

abbrev pub unless_too_large : List ℕ → Option CoefficientTooLarge → Result (List ℕ) CoefficientTooLarge
unless_too_large coefficients None = Ok coefficients
unless_too_large coefficients (Some refusal) = Err refusal

-- what bytes are read as: the coefficients that they spell, or the first that is too large
abbrev pub read_packed : List ℕ → Result (List ℕ) CoefficientTooLarge
read_packed bytes = unless_too_large (unpacked bytes) (first_too_large 0 (unpacked bytes))
