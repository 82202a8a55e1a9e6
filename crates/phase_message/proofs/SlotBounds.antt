-- The stage of a slot is one of the round's, and its sender a member.
use Rattle.std.proofs.Common.{◌≡◌, ℕ, zero, suc, ◌+◌, ◌<◌, ◌≤◌, true, List, [], ◌∷◌, ◌++◌, map, Option, Some, None, inl, inr, refl, ap, sym, ◌∙◌, subst, arith, eqb-true}
use Rattle.std.specs.List.{range_with_len, slice_get}
use Rattle.std.proofs.lemmas.Bool.{and_parts, cases_lt, leb-true}
use Rattle.phase_message.specs.declared.stage.StageKind.{StageKind}
use Rattle.phase_message.specs.declared.stage.StageKind.TheVariants.{Keys, Submit, Shuffle, Go, Final, Pad, Check, Confirm}
use Rattle.phase_message.specs.Shape.{Shape}
use Rattle.phase_message.specs.Slots.{stage_count}
use Rattle.phase_message.specs.Stages.{is_sender, is_slot, kind_of_stage, speaks, stages, turns}
use Rattle.phase_message.proofs.SlotLists.{stage-past}

-- a turn is of one of n members
abbrev IsBounded : ℕ → StageKind → Type 0
IsBounded n (Shuffle shuffle k) = (1 ≤ k) × (k ≤ n)
IsBounded n _ = Unit {0}

abbrev AreBounded : ℕ → List StageKind → Type 0
AreBounded n [] = Unit {0}
AreBounded n (kind ∷ kinds) = IsBounded n kind × AreBounded n kinds

turns-bounded : (n shuffle a m : ℕ) (kinds : List StageKind) → 1 ≤ a → a + m ≤ n + 1 → AreBounded n kinds
    → AreBounded n (map (λ k. Shuffle shuffle k) (range_with_len a m) ++ kinds)
turns-bounded n shuffle a zero kinds least most rest = rest
turns-bounded n shuffle a (suc m) kinds least most rest = (
  (least, omega (arith, most)),
  turns-bounded n shuffle (a + 1) m kinds
      (omega arith) (omega (arith, most)) rest,
)

stages-bounded : (shape : Shape) → AreBounded shape.members (stages shape)
stages-bounded shape =
    let n : ℕ = shape.members in
    let b : AreBounded n (turns 2 n ++ last) = turns-bounded n 2 1 n last (omega arith) (omega arith) (tt, (tt, tt)) in
    (tt, (tt, turns-bounded n 1 1 n (middle ++ (turns 2 n ++ last)) (omega arith) (omega arith) (tt, (tt, (tt, (tt, (tt, (tt, b))))))))
  where
    last : List StageKind
    last = Go 2 ∷ Final 2 ∷ []

    middle : List StageKind
    middle = Go 1 ∷ Final 1 ∷ Pad ∷ Check ∷ Confirm ∷ Submit 2 ∷ []

bounded-at : (n : ℕ) (kinds : List StageKind) (i : ℕ) (kind : StageKind) → AreBounded n kinds → slice_get kinds i ≡ Some kind
    → IsBounded n kind
bounded-at n [] i kind all e = absurd cc
bounded-at n (first ∷ kinds) zero kind all e = let same : first ≡ kind = cc in subst (λ (k : StageKind). IsBounded n k) same all.0
bounded-at n (first ∷ kinds) (suc i) kind all e = bounded-at n kinds i kind all.1 e

-- a slot's stage is one of the round, and its sender a member
pub slot-bounds : (shape : Shape) (stage sender : ℕ) → is_slot shape stage sender ≡ true → (stage < stage_count shape) × (1 ≤ sender)
    × (sender ≤ shape.members)
slot-bounds shape stage sender speaks_there = by_kind (kind_of_stage shape stage) refl
  where
    member : (n : ℕ) → is_sender shape Keys sender ≡ true → (1 ≤ sender) × (sender ≤ shape.members)
    member n e = let parts = and_parts _ _ e in (leb-true _ _ parts.0, leb-true _ _ parts.1)

    by_sender : (kind : StageKind) → IsBounded shape.members kind → is_sender shape kind sender ≡ true → (1 ≤ sender)
        × (sender ≤ shape.members)
    by_sender (Shuffle shuffle k) bounded e = let same : sender ≡ k = eqb-true _ _ e in (omega (arith, bounded.0), omega (arith, bounded.1))
    by_sender Keys bounded e = member 0 e
    by_sender (Submit shuffle) bounded e = member 0 e
    by_sender (Go shuffle) bounded e = member 0 e
    by_sender (Final shuffle) bounded e = member 0 e
    by_sender Pad bounded e = member 0 e
    by_sender Check bounded e = member 0 e
    by_sender Confirm bounded e = member 0 e

    by_kind : (o : Option StageKind) → kind_of_stage shape stage ≡ o → (stage < stage_count shape) × (1 ≤ sender) × (sender ≤ shape.members)
    by_kind None e = absurd (let silent = ap (λ (o : Option StageKind). speaks shape o sender) e in cc)
    by_kind (Some kind) e =
        let speaks_in : is_sender shape kind sender ≡ true = sym (ap (λ (o : Option StageKind). speaks shape o sender) e) ∙ speaks_there in
        let bounds = by_sender kind (bounded-at shape.members (stages shape) stage kind (stages-bounded shape) e) speaks_in in (
          elim (cases_lt stage (stage_count shape)) [
            | inl lt ↦ lt
            | inr le ↦ absurd (let none = stage-past shape stage le in cc)
          ],
          bounds.0,
          bounds.1,
        )
