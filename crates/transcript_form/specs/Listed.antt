-- Posts where they lie, each with its length in four bytes before it.
use Rattle.std.specs.Prelude.{ℕ, zero, suc, ◌≤◌, List, [], ◌∷◌, length, take, drop}
use Rattle.std.specs.Int.{w32, from_be_bytes}

-- the length of the first post
abbrev pub first_length : List ℕ → ℕ
first_length bytes = from_be_bytes w32 (take 4 bytes)

-- what follows the first post
abbrev pub behind_first : List ℕ → List ℕ
behind_first bytes = drop (first_length bytes) (drop 4 bytes)

-- n posts lie in these bytes, one behind the other
abbrev pub PostsLie : ℕ → List ℕ → Type 0
PostsLie zero bytes = Unit {0}
PostsLie (suc n) bytes =
    (4 ≤ length bytes) × (first_length bytes ≤ length (drop 4 bytes)) × PostsLie n (behind_first bytes)

-- the n posts that lie in these bytes
abbrev pub posts_of : ℕ → List ℕ → List (List ℕ)
posts_of zero bytes = []
posts_of (suc n) bytes = take (first_length bytes) (drop 4 bytes) ∷ posts_of n (behind_first bytes)
