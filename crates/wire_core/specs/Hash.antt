-- Hashed strings. What is hashed is "DSNT1", the byte of a tag, and for each piece its length in
-- four bytes and its bytes.
use Rattle.std.specs.Prelude.{◌≡◌, ◌≢◌, ℕ, ◌<◌, ◌^◌, List, [], ◌∷◌, ◌++◌, length, Contains, codes}
use Rattle.std.specs.List.{flat_map, AllByRecursion}
use Rattle.std.specs.Int.{w64, to_be_bytes}
use Rattle.sha2.specs.Sha256.{sha256}
use Rattle.wire_core.specs.Bytes.{prefixed}
use Rattle.wire_core.specs.declared.tag.Tag.{Tag}
use Rattle.wire_core.specs.declared.tag.Tag.TheVariants.{View, Roster, RingPublic, RingSecret, RingCoins, LayerStream, LayerTag, LayerSeed, Message, PadStream, PadHash, Derive, LmsIdentifier, LmsSeed, ScriptKey, ScriptFresh, MakeSeed, MakeMessage}

-- the text "DSNT1"
abbrev pub magic : List ℕ
magic = codes "DSNT1"

-- the byte of a tag
abbrev pub tag_number : Tag → ℕ
tag_number View = 1
tag_number Roster = 2
tag_number RingPublic = 3
tag_number RingSecret = 4
tag_number RingCoins = 5
tag_number LayerStream = 6
tag_number LayerTag = 7
tag_number LayerSeed = 8
tag_number Message = 9
tag_number PadStream = 10
tag_number PadHash = 11
tag_number Derive = 12
tag_number LmsIdentifier = 13
tag_number LmsSeed = 14
tag_number ScriptKey = 15
tag_number ScriptFresh = 16
tag_number MakeSeed = 17
tag_number MakeMessage = 18

-- a list of pieces, each of which has its length in four bytes
abbrev pub ArePieces : List (List ℕ) → Type 0
ArePieces pieces = AllByRecursion (λ p. length p < 2 ^ 32) pieces

-- the string that is hashed for a tag and its pieces
unfoldable pub hashed : Tag → List (List ℕ) → List ℕ
hashed tag pieces = magic ++ tag_number tag ∷ flat_map prefixed pieces

-- the hash of a tag and its pieces: 32 bytes
unfoldable pub hash_of : Tag → List (List ℕ) → List ℕ
hash_of tag pieces = sha256 (hashed tag pieces)

-- a member's secret of a round, from its fresh bytes: the label says which secret, and the index
-- is 0 but for the pad seeds, where it is a member's number
abbrev pub derived : List ℕ → ℕ → ℕ → ℕ → List ℕ
derived fresh round label index =
    hash_of Derive (fresh ∷ to_be_bytes w64 round ∷ (label ∷ []) ∷ (index ∷ []) ∷ [])

-- what is hashed for the seed of a layer: the opening of the member's side, the round, and a byte for each of the
-- shuffle, the side, the member and the layer
abbrev pub layer_seed_pieces : List ℕ → ℕ → ℕ → ℕ → ℕ → ℕ → List (List ℕ)
layer_seed_pieces opening round shuffle side member layer =
    opening ∷ to_be_bytes w64 round ∷ (shuffle ∷ []) ∷ (side ∷ []) ∷ (member ∷ []) ∷ (layer ∷ []) ∷ []

-- the seed of one layer of a member's submission
abbrev pub layer_seed : List ℕ → ℕ → ℕ → ℕ → ℕ → ℕ → List ℕ
layer_seed opening round shuffle side member layer =
    hash_of LayerSeed (layer_seed_pieces opening round shuffle side member layer)

-- the string whose hash that seed is
abbrev pub layer_seed_string : List ℕ → ℕ → ℕ → ℕ → ℕ → ℕ → List ℕ
layer_seed_string opening round shuffle side member layer =
    hashed LayerSeed (layer_seed_pieces opening round shuffle side member layer)

-- two different strings with one SHA-256
abbrev pub Collides : List ℕ → List ℕ → Type 0
Collides s t = (s ≢ t) × (sha256 s ≡ sha256 t)

-- any two strings of the list with one SHA-256 are equal
abbrev pub NoCollision : List (List ℕ) → Type 0
NoCollision strings = (s t : List ℕ) →
    Contains strings s → Contains strings t → sha256 s ≡ sha256 t → s ≡ t
