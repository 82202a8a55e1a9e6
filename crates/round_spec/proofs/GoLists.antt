-- The lists that a vote on a shuffle looks at.
use Rattle.std.proofs.Common.{◌≡◌, ℕ, zero, suc, ◌+◌, ◌-◌, ◌<◌, ◌≤◌, List, [], ◌∷◌, length, map, take, drop, Option, Some, Result, Ok, Err, ap, sym, ◌∙◌, refl, arith, inl, inr}
use Rattle.std.specs.Prelude.{◌==◌, slice_index_or}
use Rattle.std.specs.List.{range_with_len, slice_get}
use Rattle.std.proofs.lemmas.Bool.{cases_Bool, cond-false, cond-true}
use Rattle.std.proofs.lemmas.Option.{get_or_from_slice_get}
use Rattle.phase_message.specs.declared.content.Body.TheVariants.{Keys, Submit, Shuffled, Abort, Go, Reveal, Dispute, Pads, Check, Confirm, Differ}
use Rattle.phase_message.specs.declared.content.Body.{Body}
use Rattle.phase_message.specs.declared.content.Content.{Content}
use Rattle.phase_message.specs.declared.offence.Offence.{Offence}
use Rattle.phase_message.specs.declared.stage.StageKind.{StageKind}
use Rattle.phase_message.specs.declared.stage.StageKind.TheVariants.{Shuffle}
use Rattle.phase_message.specs.Offence.{content_read}
use Rattle.phase_message.specs.Shape.{Shape}
use Rattle.phase_message.specs.Slots.{place_in, slot_number, slots_before}
use Rattle.phase_message.specs.Stages.{kind_of_stage}
use Rattle.phase_message.proofs.Counts.{slots_next}
use Rattle.phase_message.proofs.Table.{turn_a, turn_b}
use Rattle.stage_log.specs.Log.{all_some}
use Rattle.go_nogo.specs.Rows.{list_in, list_read, turns_before}
use Rattle.shuffle_blame.specs.Replay.{body_of, list_of}
use Rattle.round_spec.specs.Given.{VotesLookAtLists}
use Rattle.round_spec.specs.Slots.{list_said, said_in, submit_stage}

-- ---- parts of a list

pub there : {A : Type 0} (xs : List A) (k : ℕ) → k < length xs → (x : A) × (slice_get xs k ≡ Some x)
there [] k lt = absurd (omega (arith, lt))
there (x ∷ xs) zero lt = (x, refl)
there (x ∷ xs) (suc k) lt = there xs k (omega (arith, lt))

pub drop-here : {A : Type 0} (xs : List A) (k : ℕ) (x : A) → slice_get xs k ≡ Some x → drop k xs ≡ x ∷ drop (suc k) xs
drop-here {A} [] k x e = absurd cc
drop-here {A} (y ∷ ys) zero x e = ap (λ (z : A). z ∷ ys) (some-is y x e)
  where
    some-is : (a b : A) → (let told : A → Option A = λ z. Some z in told a ≡ told b) → a ≡ b
    some-is a b e = cc
drop-here {A} (y ∷ ys) (suc k) x e = drop-here ys k x e

-- a function of the items of a part of a list, and one of the places
parts-same : {A B : Type 0} (f : A → B) (g : ℕ → B) (xs : List A) (n a s : ℕ) → a + n ≤ length xs
    → ((i : ℕ) (x : A) → i < n → slice_get xs (a + i) ≡ Some x → f x ≡ g (s + i))
    → map f (take n (drop a xs)) ≡ map g (range_with_len s n)
parts-same f g xs zero a s le each = refl
parts-same {A} {B} f g xs (suc n) a s le each =
    let first = there xs a (omega (arith, le)) in
    let here : a + 0 ≡ a = omega arith in
    let start : s + 0 ≡ s = omega arith in
    let next : f first.0 ≡ g s = each 0 first.0 (omega arith) (ap (slice_get xs) here ∙ first.1) ∙ ap g start in
    ap (λ (ys : List A). map f (take (suc n) ys)) (drop-here xs a first.0 first.1)
    ∙ ap (λ (b : B). b ∷ map f (take n (drop (suc a) xs))) next
    ∙ ap (λ (bs : List B). g s ∷ bs) (parts-same f g xs n (suc a) (s + 1) (omega (arith, le)) (λ i x lt at. (
    let place : a + suc i ≡ suc a + i = omega arith in
    let number : s + suc i ≡ s + 1 + i = omega arith in
    each (suc i) x (omega (arith, lt)) (ap (slice_get xs) place ∙ at) ∙ ap g number)))

-- ---- the turns of a shuffle

-- the stage of a turn is one
pub turn-kind : (shape : Shape) (shuffle k : ℕ) → 1 ≤ k → k ≤ shape.members
    → (number : ℕ) × (kind_of_stage shape (submit_stage shape shuffle + k) ≡ Some (Shuffle number k))
turn-kind shape shuffle k least most = elim (cases_Bool (shuffle == 1)) [
  | inl a ↦ (
    1,
    (let at = cond-true (shuffle == 1) 1 (shape.members + 7) a in turn_a shape (submit_stage shape shuffle + k) k
        (omega (arith, at)) least most),
  )
  | inr b ↦ (
    2,
    (let at = cond-false (shuffle == 1) 1 (shape.members + 7) b in turn_b shape (submit_stage shape shuffle + k) k
        (omega (arith, at)) least most),
  )
]

-- so many slots stand before each
turn-slots : (shape : Shape) (shuffle i : ℕ) → i ≤ shape.members
    → slots_before shape (submit_stage shape shuffle + suc i) ≡ slots_before shape (submit_stage shape shuffle + 1) + i
turn-slots shape shuffle zero most = omega arith
turn-slots shape shuffle (suc i) most =
    let kind = turn-kind shape shuffle (suc i) (omega arith) most in
    let next = slots_next shape (submit_stage shape shuffle + suc i) (Shuffle kind.0 (suc i)) kind.1 in
    let stage : submit_stage shape shuffle + suc (suc i) ≡ submit_stage shape shuffle + suc i + 1 = omega arith in
    ap (slots_before shape) stage ∙ next ∙ omega (arith, turn-slots shape shuffle i (omega (arith, most)))

-- ---- what is read of a turn

body-list : (body : Body) → list_in body ≡ list_of body
body-list (Keys keys) = refl
body-list (Submit ciphertext) = refl
body-list (Shuffled list) = refl
body-list Abort = refl
body-list (Go vote) = refl
body-list (Reveal votes seed) = refl
body-list (Dispute posts seed opening) = refl
body-list (Pads pads) = refl
body-list (Check vote) = refl
body-list (Confirm votes) = refl
body-list (Differ posts) = refl

read-list : (r : Result Content Offence) → list_read r ≡ list_of (body_of r)
read-list (Ok content) = body-list content.body
read-list (Err offence) = refl

turn-list : (shape : Shape) (past : List (List ℕ)) (shuffle i : ℕ) (text : List ℕ) → i < shape.members
    → slice_get past (slots_before shape (submit_stage shape shuffle + 1) + i) ≡ Some text
    → list_read (content_read shape text) ≡ list_said shape past shuffle (suc i)
unfolding said_in
turn-list shape past shuffle i text lt at =
    let kind = turn-kind shape shuffle (suc i) (omega arith) (omega (arith, lt)) in
    let number : slot_number shape (submit_stage shape shuffle + suc i) (suc i) ≡ slots_before shape (submit_stage shape shuffle + 1) + i =
    ap (λ (o : Option StageKind). slots_before shape (submit_stage shape shuffle + suc i) + place_in o (suc i)) kind.1
    ∙ omega (arith, turn-slots shape shuffle i (omega (arith, lt))) in
    let text_is : slice_index_or past (slot_number shape (submit_stage shape shuffle + suc i) (suc i)) [] ≡ text =
    get_or_from_slice_get past _ text [] (ap (slice_get past) number ∙ at) in
    read-list (content_read shape text) ∙ ap (λ (t : List ℕ). list_of (body_of (content_read shape t))) (sym text_is)

pub votes_look_at_lists : VotesLookAtLists
votes_look_at_lists shape past shuffle stage at whole =
    let n : ℕ = shape.members in
    let a : ℕ = slots_before shape (submit_stage shape shuffle + 1) in
    let stage_is : stage ≡ submit_stage shape shuffle + suc n = omega (arith, at) in
    let count : slots_before shape stage ≡ a + n = ap (slots_before shape) stage_is ∙ turn-slots shape shuffle n (omega arith) in
    let first : slots_before shape stage - n ≡ a = omega (arith, count) in
    let long : slots_before shape stage - (slots_before shape stage - n) ≡ n = omega (arith, count) in
    let part : turns_before shape past stage ≡ take n (drop a past) = ap (λ (k : ℕ). take k (drop (slots_before shape stage - n) past)) long
    ∙ ap (λ (k : ℕ). take n (drop k past)) first in
    ap (λ (turns : List (List ℕ)). all_some (map (λ turn. list_read (content_read shape turn)) turns)) part
    ∙ ap (λ (lists : List (Option (List (List ℕ)))). all_some lists)
    (parts-same (λ turn. list_read (content_read shape turn)) (list_said shape past shuffle) past n a 1 (omega (arith, whole, count))
    (λ i text lt e. (let next : suc i ≡ 1 + i = omega arith in turn-list shape past shuffle i text lt e
    ∙ ap (list_said shape past shuffle) next)))
