-- Four computations side by side: each word is a vector of four numbers, one for each of them.
use Rattle.std.specs.Prelude.{ℕ, List, map, slice_index}

-- the words of computation j
abbrev pub lane : ℕ → List (List ℕ) → List ℕ
lane j words = map (λ w. slice_index w j) words
