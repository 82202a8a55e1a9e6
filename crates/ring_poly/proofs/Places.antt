-- Lists of 1,024 values by place.
use Rattle.std.proofs.Common.{◌≡◌, ℕ, ◌<◌, List, length, get_or, ◌∙◌, arith}
use Rattle.std.proofs.lemmas.List.FromFn.{length-map-range_with_len, get_or-map-range_with_len, fill_by_all}
use Rattle.ring_poly.specs.Product.{by_place}

pub length-by_place : {X : Type 0} (F : ℕ → X) → length (by_place F) ≡ 1024
unfolding by_place
length-by_place F = length-map-range_with_len F 0 1024

pub get_or-by_place : {X : Type 0} (F : ℕ → X) (k : ℕ) (d : X) → k < 1024 → get_or (by_place F) k d ≡ F k
unfolding by_place
get_or-by_place F k d h = get_or-map-range_with_len F 0 1024 k k d h (omega arith)

-- a list of 1,024 values is that of its values by place
pub by_place_is : {X : Type 0} (F : ℕ → X) (xs : List X) (d : X) → length xs ≡ 1024 → ((k : ℕ) → k < 1024 → get_or xs k d ≡ F k)
    → xs ≡ by_place F
unfolding by_place
by_place_is F xs d e h = fill_by_all F xs 1024 d e h

-- one value at each place, one list
pub by_place_same : {X : Type 0} (F G : ℕ → X) (d : X) → ((k : ℕ) → k < 1024 → F k ≡ G k) → by_place F ≡ by_place G
by_place_same F G d h = by_place_is G (by_place F) d (length-by_place F) (λ k l. get_or-by_place F k d l ∙ h k l)
