-- Bytes at their places. Numbers are big endian.
use Rattle.std.specs.Prelude.{ℕ, List, length, take, drop, Bool, not, ◌&&◌, ◌==◌, nat_lt, slice_index, Option}
use Rattle.std.specs.Bool.{then_some}
use Rattle.std.specs.Int.{w32, w64, from_be_bytes}
use Rattle.wire_core.specs.Answers.{first_below}

-- the bytes from a place on, as many as `size`, or those that are left
unfoldable pub part : List ℕ → (at size : ℕ) → List ℕ
part bytes at size = take size (drop at bytes)

-- the number that the four bytes from a place on are
unfoldable pub word_at : List ℕ → ℕ → ℕ
word_at bytes at = from_be_bytes w32 (part bytes at 4)

-- the number that the eight bytes from a place on are
unfoldable pub long_at : List ℕ → ℕ → ℕ
long_at bytes at = from_be_bytes w64 (part bytes at 8)

-- whether the byte at a place is there and is b
abbrev pub has_byte : List ℕ → ℕ → ℕ → Bool
has_byte bytes at b = nat_lt at (length bytes) && (slice_index bytes at == b)

-- the first place at which the bytes do not begin with these: a byte there is missing or another
abbrev pub first_unlike : List ℕ → List ℕ → Option ℕ
first_unlike front bytes =
    first_below (length front) (λ at. then_some (not (has_byte bytes at (slice_index front at))) at)
