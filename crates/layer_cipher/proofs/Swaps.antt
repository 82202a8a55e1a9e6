-- Swaps pass through a map, and so do rows of swaps.
use Rattle.std.proofs.Common.{◌≡◌, ℕ, List, [], ◌∷◌, map, set, get_or, refl, sym, ap, ◌∙◌, subst, IsPermutation, swap}
use Rattle.std.proofs.Math.ListN.{get_or-map, length-map}
use Rattle.std.proofs.lemmas.List.{map-set}
use Rattle.std.specs.List.Sorted.{apply_swaps, SwapsInRange}

pub map-swap : {X Y : Type 0} (f : X → Y) (xs : List X) (i j : ℕ) → map f (swap xs i j) ≡ swap (map f xs) i j
map-swap f [] i j = refl
map-swap {X} f (d ∷ ys) i j =
    let xs : List X = d ∷ ys in
    map-set f (set xs i (get_or xs j d)) j (get_or xs i d)
    ∙ (λ k. set ((map-set f xs i (get_or xs j d) ∙ ap (set (map f xs) i) (sym (get_or-map f xs j d))) k) j (sym (get_or-map f xs i d) k))

pub map-apply_swaps : {X Y : Type 0} (f : X → Y) (xs : List X) (moves : List (ℕ × ℕ))
    → map f (apply_swaps xs moves) ≡ apply_swaps (map f xs) moves
map-apply_swaps f xs [] = refl
map-apply_swaps f xs (p ∷ ps) = map-swap f (apply_swaps xs ps) p.0 p.1 ∙ ap (λ l. swap l p.0 p.1) (map-apply_swaps f xs ps)

-- what stands in another order before a map is reached from another order of what was mapped
pub from_mapped : {X Y : Type 0} (f : X → Y) (xs : List X) (ys : List Y) → IsPermutation (map f xs) ys → (zs : List X) × (ys ≡ map f zs)
    × IsPermutation xs zs
from_mapped f xs ys p = (
  apply_swaps xs p.moves,
  p.is ∙ sym (map-apply_swaps f xs p.moves),
  record { moves = p.moves; below = subst (λ n. SwapsInRange n p.moves) (length-map xs f) p.below; is = refl },
)
