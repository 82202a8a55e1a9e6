-- Polynomials that are drawn from a key of 32 bytes.
use Rattle.std.specs.Prelude.{ℕ, ◌+◌, ◌*◌, ◌/◌, ◌%◌, List, ℤ, pos, ◌-ℤ◌}
use Rattle.std.specs.Int.{bit_at}
pub use Rattle.pad_stream.specs.Stream.{word_of}
use Rattle.ring_poly.specs.declared.TheConstants.{MODULUS}
use Rattle.ring_poly.specs.Product.{by_place}

-- a polynomial modulo 12289: each coefficient from a word of its own
unfoldable pub uniform : List ℕ → List ℕ
uniform key = by_place (λ c. word_of key c % MODULUS)

-- the difference of two neighbouring bits of a word: -1, 0 or 1
abbrev pub trit_of : ℕ → ℕ → ℤ
trit_of word i = pos (bit_at word (2 * i)) -ℤ pos (bit_at word (2 * i + 1))

-- a ternary polynomial: each word from a place on gives sixteen coefficients
unfoldable pub ternary : List ℕ → ℕ → List ℤ
ternary key place = by_place (λ c. trit_of (word_of key (place + c / 16)) (c % 16))
