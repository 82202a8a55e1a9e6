-- Which stage stands at which place of the table.
use Rattle.std.proofs.Common.{◌≡◌, ℕ, zero, suc, ◌+◌, ◌-◌, ◌<◌, ◌≤◌, List, [], ◌∷◌, ◌++◌, length, map, Option, Some, None, refl, ap, ◌∙◌, arith}
use Rattle.std.specs.Prelude.{IsSome, IsNone}
use Rattle.std.specs.List.{slice_get, range_with_len}
use Rattle.std.proofs.lemmas.List.FromFn.{length-map-range_with_len}
use Rattle.phase_message.specs.declared.stage.StageKind.{StageKind}
use Rattle.phase_message.specs.declared.stage.StageKind.TheVariants.{Keys, Submit, Shuffle, Go, Final, Pad, Check, Confirm}
use Rattle.phase_message.specs.Shape.{Shape}
use Rattle.phase_message.specs.Stages.{turns, kind_of_stage}

pub slice_get_left : {A : Type 0} (xs ys : List A) (i : ℕ) → i < length xs → slice_get (xs ++ ys) i ≡ slice_get xs i
slice_get_left [] ys i lt = absurd (omega arith)
slice_get_left (x ∷ xs) ys zero lt = refl
slice_get_left (x ∷ xs) ys (suc i) lt = slice_get_left xs ys i (omega arith)

pub slice_get_right : {A : Type 0} (xs ys : List A) (k : ℕ) → slice_get (xs ++ ys) (length xs + k) ≡ slice_get ys k
slice_get_right [] ys k = let e : 0 + k ≡ k = omega arith in rw e refl
slice_get_right (x ∷ xs) ys k = let e : suc (length xs) + k ≡ suc (length xs + k) = omega arith in rw e (slice_get_right xs ys k)

turn_from : (shuffle a n i k : ℕ) → i < n → k ≡ a + i → slice_get (map (λ m. Shuffle shuffle m) (range_with_len a n)) i ≡ Some
    (Shuffle shuffle k)
turn_from shuffle a zero i k lt e = absurd (omega arith)
turn_from shuffle a (suc n) zero k lt e = let same : k ≡ a = omega arith in rw same refl
turn_from shuffle a (suc n) (suc i) k lt e = turn_from shuffle (a + 1) n i k (omega arith) (omega arith)

-- the table behind the turns of shuffle A, and behind those of shuffle B
abbrev last : List StageKind
last = Go 2 ∷ Final 2 ∷ []

abbrev middle : List StageKind
middle = Go 1 ∷ Final 1 ∷ Pad ∷ Check ∷ Confirm ∷ Submit 2 ∷ []

abbrev from_go : ℕ → List StageKind
from_go n = middle ++ (turns 2 n ++ last)

pub turn_a : (shape : Shape) (stage k : ℕ) → stage ≡ k + 1 → 1 ≤ k → k ≤ shape.members → kind_of_stage shape stage ≡ Some (Shuffle 1 k)
turn_a shape stage k e least most =
    let place : stage ≡ suc (suc (k - 1)) = omega arith in
    let long = length-map-range_with_len (λ m. Shuffle 1 m) 1 shape.members in
    rw place (slice_get_left (turns 1 shape.members) (from_go shape.members) (k - 1) (omega arith)
    ∙ turn_from 1 1 shape.members (k - 1) k (omega arith) (omega arith))

behind_a : (shape : Shape) (stage k : ℕ) → stage ≡ shape.members + 2 + k → kind_of_stage shape stage ≡ slice_get (from_go shape.members) k
behind_a shape stage k e =
    let long = length-map-range_with_len (λ m. Shuffle 1 m) 1 shape.members in
    let place : stage ≡ suc (suc (length (turns 1 shape.members) + k)) = omega arith in
    rw place (slice_get_right (turns 1 shape.members) (from_go shape.members) k)

pub turn_b : (shape : Shape) (stage k : ℕ) → stage ≡ shape.members + 7 + k → 1 ≤ k → k ≤ shape.members
    → kind_of_stage shape stage ≡ Some (Shuffle 2 k)
turn_b shape stage k e least most =
    let long = length-map-range_with_len (λ m. Shuffle 2 m) 1 shape.members in
    let place : 5 + k ≡ 6 + (k - 1) = omega arith in
    behind_a shape stage (5 + k) (omega arith)
    ∙ ap (slice_get (from_go shape.members)) place
    ∙ slice_get_right middle (turns 2 shape.members ++ last) (k - 1)
    ∙ slice_get_left (turns 2 shape.members) last (k - 1) (omega arith)
    ∙ turn_from 2 1 shape.members (k - 1) k (omega arith) (omega arith)

behind_b : (shape : Shape) (stage k : ℕ) → stage ≡ shape.members + shape.members + 8 + k → kind_of_stage shape stage ≡ slice_get last k
behind_b shape stage k e =
    let long = length-map-range_with_len (λ m. Shuffle 2 m) 1 shape.members in
    let place : shape.members + 6 + k ≡ 6 + (length (turns 2 shape.members) + k) = omega arith in
    behind_a shape stage (shape.members + 6 + k) (omega arith)
    ∙ ap (slice_get (from_go shape.members)) place
    ∙ slice_get_right middle (turns 2 shape.members ++ last) (length (turns 2 shape.members) + k)
    ∙ slice_get_right (turns 2 shape.members) last k

pub keys_is : (shape : Shape) (stage : ℕ) → stage ≡ 0 → kind_of_stage shape stage ≡ Some Keys
keys_is shape stage e = rw e refl

pub submit_a_is : (shape : Shape) (stage : ℕ) → stage ≡ 1 → kind_of_stage shape stage ≡ Some (Submit 1)
submit_a_is shape stage e = rw e refl

pub go_a_is : (shape : Shape) (stage : ℕ) → stage ≡ shape.members + 2 → kind_of_stage shape stage ≡ Some (Go 1)
go_a_is shape stage e = behind_a shape stage 0 (omega arith)

pub final_a_is : (shape : Shape) (stage : ℕ) → stage ≡ shape.members + 3 → kind_of_stage shape stage ≡ Some (Final 1)
final_a_is shape stage e = behind_a shape stage 1 (omega arith)

pub pad_is : (shape : Shape) (stage : ℕ) → stage ≡ shape.members + 4 → kind_of_stage shape stage ≡ Some Pad
pad_is shape stage e = behind_a shape stage 2 (omega arith)

pub check_is : (shape : Shape) (stage : ℕ) → stage ≡ shape.members + 5 → kind_of_stage shape stage ≡ Some Check
check_is shape stage e = behind_a shape stage 3 (omega arith)

pub confirm_is : (shape : Shape) (stage : ℕ) → stage ≡ shape.members + 6 → kind_of_stage shape stage ≡ Some Confirm
confirm_is shape stage e = behind_a shape stage 4 (omega arith)

pub submit_b_is : (shape : Shape) (stage : ℕ) → stage ≡ shape.members + 7 → kind_of_stage shape stage ≡ Some (Submit 2)
submit_b_is shape stage e = behind_a shape stage 5 (omega arith)

pub go_b_is : (shape : Shape) (stage : ℕ) → stage ≡ shape.members + shape.members + 8 → kind_of_stage shape stage ≡ Some (Go 2)
go_b_is shape stage e = behind_b shape stage 0 (omega arith)

pub final_b_is : (shape : Shape) (stage : ℕ) → stage ≡ shape.members + shape.members + 9 → kind_of_stage shape stage ≡ Some (Final 2)
final_b_is shape stage e = behind_b shape stage 1 (omega arith)

pub nothing_is : (shape : Shape) (stage : ℕ) → shape.members + shape.members + 10 ≤ stage → kind_of_stage shape stage ≡ None
nothing_is shape stage le = behind_b shape stage (suc (suc (stage - (shape.members + shape.members + 10)))) (omega arith)

pub never_none : {A : Type 0} (o : Option A) → IsSome o → IsNone o → ⊥
never_none (Some x) some none = absurd cc
never_none None some none = absurd cc
