-- Where a coefficient stands that is too large.
use Rattle.std.proofs.Common.{◌≡◌, ℕ, ◌+◌, ◌<◌, Bool, true, false, cond, List, [], ◌∷◌, length, Option, Some, None, Err, arith, ap}
use Rattle.std.specs.Prelude.{nat_lt}
use Rattle.ring_poly.specs.declared.packing.CoefficientTooLarge.{CoefficientTooLarge}
use Rattle.ring_poly.specs.Packing.{first_too_large, read_packed, unless_too_large, unpacked}
use Rattle.ring_poly.proofs.Packings.{length-unpacked}

too_large-within : (place : ℕ) (cs : List ℕ) (large : CoefficientTooLarge) → first_too_large place cs ≡ Some large
    → large.place < place + length cs
too_large-within place [] large e = absurd cc
too_large-within place (c ∷ rest) large e =
    by_test (nat_lt c 12289) (λ later. omega (arith, too_large-within (place + 1) rest large later)) e
  where
    by_test : (b : Bool) → (first_too_large (place + 1) rest ≡ Some large → large.place < place + length (c ∷ rest))
        → cond b (first_too_large (place + 1) rest) (Some (record { place = place; value = c })) ≡ Some large
        → large.place < place + length (c ∷ rest)
    by_test true later e = later e
    by_test false later e =
        let here : record { place = place; value = c } ≡ large = cc in
        let same : place ≡ large.place = ap (λ (x : CoefficientTooLarge). x.place) here in
        omega arith

refused-some : (cs : List ℕ) (o : Option CoefficientTooLarge) (large : CoefficientTooLarge) → unless_too_large cs o ≡ Err large
    → o ≡ Some large
refused-some cs None large e = absurd cc
refused-some cs (Some x) large e = cc

-- a polynomial has 1,024 places
pub large_within : (bytes : List ℕ) (large : CoefficientTooLarge) → length bytes ≡ 1792 → read_packed bytes ≡ Err large → large.place < 1024
large_within bytes large long e =
    let some = refused-some (unpacked bytes) (first_too_large 0 (unpacked bytes)) large e in
    omega (arith, too_large-within 0 (unpacked bytes) large some, length-unpacked 256 bytes (omega arith))
