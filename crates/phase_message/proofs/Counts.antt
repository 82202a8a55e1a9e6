-- How many slots there are before the next stage.
use Rattle.std.proofs.Common.{◌≡◌, ℕ, zero, suc, ◌+◌, List, [], ◌∷◌, Some, None, take, refl, ap, ◌∙◌, arith}
use Rattle.std.specs.List.{slice_get, sum_by}
use Rattle.std.proofs.lemmas.List.Sums.{sum_by-cons}
use Rattle.phase_message.specs.declared.stage.StageKind.{StageKind}
use Rattle.phase_message.specs.Shape.{Shape}
use Rattle.phase_message.specs.Stages.{kind_of_stage, stages}
use Rattle.phase_message.specs.Slots.{senders_of, slots_before}

sum_next : {A : Type 0} (f : A → ℕ) (xs : List A) (s : ℕ) (x : A) → slice_get xs s ≡ Some x
    → sum_by f (take (suc s) xs) ≡ sum_by f (take s xs) + f x
sum_next f [] s x e = absurd cc
sum_next f (y ∷ xs) zero x e =
    let same : y ≡ x = cc in
    let one : sum_by f (y ∷ []) ≡ f y + sum_by f [] = sum_by-cons f y [] in
    let first : f y ≡ f x = ap f same in
    omega arith
sum_next f (y ∷ xs) (suc s) x e =
    omega (arith, sum_by-cons f y (take (suc s) xs), sum_by-cons f y (take s xs), sum_next f xs s x e)

sum_past : {A : Type 0} (f : A → ℕ) (xs : List A) (s : ℕ) → slice_get xs s ≡ None → sum_by f (take (suc s) xs) ≡ sum_by f (take s xs)
sum_past f [] zero e = refl
sum_past f [] (suc s) e = refl
sum_past f (y ∷ xs) zero e = absurd cc
sum_past f (y ∷ xs) (suc s) e =
    omega (arith, sum_by-cons f y (take (suc s) xs), sum_by-cons f y (take s xs), sum_past f xs s e)

pub slots_next : (shape : Shape) (stage : ℕ) (kind : StageKind) → kind_of_stage shape stage ≡ Some kind
    → slots_before shape (stage + 1) ≡ slots_before shape stage + senders_of shape kind
slots_next shape stage kind e =
    let next : stage + 1 ≡ suc stage = omega arith in
    ap (λ (s : ℕ). slots_before shape s) next ∙ sum_next (senders_of shape) (stages shape) stage kind e

pub slots_past : (shape : Shape) (stage : ℕ) → kind_of_stage shape stage ≡ None → slots_before shape (stage + 1) ≡ slots_before shape stage
slots_past shape stage e =
    let next : stage + 1 ≡ suc stage = omega arith in
    ap (λ (s : ℕ). slots_before shape s) next ∙ sum_past (senders_of shape) (stages shape) stage e
