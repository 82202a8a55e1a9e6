-- The exclusive or of byte strings.
use Rattle.std.specs.Prelude.{◌≡◌, ℕ, ◌≤◌, List, length, map, bit_xor}
use Rattle.std.specs.List.{zip}

-- byte by byte, as far as both strings go
abbrev pub exclusive_or : List ℕ → List ℕ → List ℕ
exclusive_or xs ys = map (λ (p : ℕ × ℕ). bit_xor p.0 p.1) (zip xs ys)

-- the two strings may change places
abbrev pub ExclusiveOrCommutes : Type 0
ExclusiveOrCommutes = (xs ys : List ℕ) → exclusive_or xs ys ≡ exclusive_or ys xs

-- it does not matter which two of three come first
abbrev pub ExclusiveOrAssociates : Type 0
ExclusiveOrAssociates = (xs ys zs : List ℕ) →
    exclusive_or (exclusive_or xs ys) zs ≡ exclusive_or xs (exclusive_or ys zs)

-- with a string that is no shorter, twice is not at all
abbrev pub ExclusiveOrUndoesItself : Type 0
ExclusiveOrUndoesItself = (xs ys : List ℕ) → length xs ≤ length ys →
    exclusive_or (exclusive_or xs ys) ys ≡ xs
