-- Lists of bytes.
use Rattle.std.specs.Prelude.{ℕ, ◌<◌, List, ◌++◌, length, slice_index}
use Rattle.std.specs.Int.{w32, to_be_bytes}

-- each item is a byte. Past the end slice_index gives 0
abbrev pub IsBytes : List ℕ → Type 0
IsBytes bytes = (i : ℕ) → slice_index bytes i < 256

-- bytes with their length before them, in four bytes
abbrev pub prefixed : List ℕ → List ℕ
prefixed bytes = to_be_bytes w32 (length bytes) ++ bytes
