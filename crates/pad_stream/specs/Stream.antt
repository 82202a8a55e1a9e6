-- The bytes that are drawn from a key of 32 bytes, and pads.
use Rattle.std.specs.Prelude.{◌≡◌, ℕ, ◌/◌, ◌%◌, List, [], ◌∷◌, length, map, slice_index}
use Rattle.std.specs.List.{range_with_len}
use Rattle.std.specs.Int.{w32, to_le_bytes}
use Rattle.rand_chacha.specs.ChaCha.{word_at, key_of}
use Rattle.wire_core.specs.declared.tag.Tag.TheVariants.{PadStream}
use Rattle.wire_core.specs.Hash.{hash_of}

-- the word at a place of what ChaCha20 gives for the key, in its stream number 0
abbrev pub word_of : List ℕ → ℕ → ℕ
word_of key place = word_at 10 (key_of key) 0 place

-- the byte at a place: each word gives four, the lowest first
unfoldable pub byte_of : List ℕ → ℕ → ℕ
byte_of key place = slice_index (to_le_bytes w32 (word_of key (place / 4))) (place % 4)

-- so many bytes, from a place on
unfoldable pub bytes_from : List ℕ → ℕ → ℕ → List ℕ
bytes_from key place count = map (byte_of key) (range_with_len place count)

-- the first bytes that are drawn from the key
abbrev pub stream_of : List ℕ → ℕ → List ℕ
stream_of key count = bytes_from key 0 count

-- the pad of a seed: the bytes that are drawn from the seed's hash
abbrev pub pad_of : List ℕ → ℕ → List ℕ
pad_of seed count = stream_of (hash_of PadStream (seed ∷ [])) count

-- so many bytes are drawn as are asked for
abbrev pub StreamIsAsLong : Type 0
StreamIsAsLong = (key : List ℕ) (count : ℕ) → length (stream_of key count) ≡ count
