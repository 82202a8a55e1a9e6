-- The laws of the exclusive or of byte strings.
use Rattle.std.proofs.Common.{◌≡◌, ℕ, ◌<◌, List, [], ◌∷◌, length, get_or, refl, sym, ap, ◌∙◌, arith, zero, suc}
use Rattle.std.specs.Prelude.{bit_xor}
use Rattle.std.specs.Int.Bits.{xor_assoc, xor_self, xor_zero_r}
use Rattle.std.proofs.lemmas.Nat.{xor_comm}
use Rattle.std.proofs.lemmas.List.{ext_get_or}
use Rattle.pad_stream.specs.ExclusiveOr.{exclusive_or, ExclusiveOrCommutes, ExclusiveOrAssociates, ExclusiveOrUndoesItself}

pub exclusive_or_comm : ExclusiveOrCommutes
exclusive_or_comm [] [] = refl
exclusive_or_comm [] (y ∷ ys) = refl
exclusive_or_comm (x ∷ xs) [] = refl
exclusive_or_comm (x ∷ xs) (y ∷ ys) =
    ap (λ (b : ℕ). b ∷ exclusive_or xs ys) (xor_comm x y)
    ∙ ap (λ (zs : List ℕ). bit_xor y x ∷ zs) (exclusive_or_comm xs ys)

pub exclusive_or_assoc : ExclusiveOrAssociates
exclusive_or_assoc [] ys zs = refl
exclusive_or_assoc (x ∷ xs) [] zs = refl
exclusive_or_assoc (x ∷ xs) (y ∷ ys) [] = refl
exclusive_or_assoc (x ∷ xs) (y ∷ ys) (z ∷ zs) =
    ap (λ (b : ℕ). b ∷ exclusive_or (exclusive_or xs ys) zs) (xor_assoc x y z)
    ∙ ap (λ (rest : List ℕ). bit_xor x (bit_xor y z) ∷ rest) (exclusive_or_assoc xs ys zs)

xor_twice : (x y : ℕ) → bit_xor (bit_xor x y) y ≡ x
xor_twice x y = xor_assoc x y y ∙ ap (λ (b : ℕ). bit_xor x b) (xor_self y) ∙ xor_zero_r x

pub exclusive_or_undo : ExclusiveOrUndoesItself
exclusive_or_undo [] ys h = refl
exclusive_or_undo (x ∷ xs) [] h = absurd (omega arith)
exclusive_or_undo (x ∷ xs) (y ∷ ys) h =
    ap (λ (b : ℕ). b ∷ exclusive_or (exclusive_or xs ys) ys) (xor_twice x y)
    ∙ ap (λ (rest : List ℕ). x ∷ rest) (exclusive_or_undo xs ys (omega arith))

pub length-exclusive_or : (xs ys : List ℕ) → length xs ≡ length ys → length (exclusive_or xs ys) ≡ length xs
length-exclusive_or [] ys h = refl
length-exclusive_or (x ∷ xs) [] h = absurd (omega arith)
length-exclusive_or (x ∷ xs) (y ∷ ys) h =
    let rest : length (exclusive_or xs ys) ≡ length xs = length-exclusive_or xs ys (omega arith) in
    omega arith

get_or-exclusive_or : (xs ys : List ℕ) (i : ℕ) → length xs ≡ length ys → i < length xs
    → get_or (exclusive_or xs ys) i 0 ≡ bit_xor (get_or xs i 0) (get_or ys i 0)
get_or-exclusive_or [] ys i h below = absurd (omega arith)
get_or-exclusive_or (x ∷ xs) [] i h below = absurd (omega arith)
get_or-exclusive_or (x ∷ xs) (y ∷ ys) zero h below = refl
get_or-exclusive_or (x ∷ xs) (y ∷ ys) (suc i) h below = get_or-exclusive_or xs ys i (omega arith) (omega arith)

-- a list that is the exclusive or at each place
pub exclusive_or_by_place : (xs ys zs : List ℕ) → length xs ≡ length ys → length zs ≡ length xs
    → ((i : ℕ) → i < length xs → get_or zs i 0 ≡ bit_xor (get_or xs i 0) (get_or ys i 0)) → zs ≡ exclusive_or xs ys
exclusive_or_by_place xs ys zs same long at =
    ext_get_or 0 zs (exclusive_or xs ys) (long ∙ sym (length-exclusive_or xs ys same))
    (λ i below. let within : i < length xs = omega arith in at i within ∙ sym (get_or-exclusive_or xs ys i same within))
