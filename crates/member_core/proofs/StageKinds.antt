-- Which stage a kind has.
use Rattle.std.proofs.Common.{◌≡◌, ℕ, ◌+◌, ◌-◌, ◌<◌, ◌≤◌, true, Option, Some, inl, inr, sym, ap, ◌∙◌, subst, arith}
use Rattle.std.proofs.lemmas.Bool.{cases_eq, cases_lt, eqb-true}
use Rattle.phase_message.specs.declared.stage.StageKind.{StageKind}
use Rattle.phase_message.specs.declared.stage.StageKind.TheVariants.{Keys, Submit, Shuffle, Go, Final, Pad, Check, Confirm}
use Rattle.phase_message.specs.Shape.{Shape}
use Rattle.phase_message.specs.Stages.{is_slot, kind_of_stage, speaks}
use Rattle.phase_message.proofs.Table.{check_is, confirm_is, final_a_is, final_b_is, go_a_is, go_b_is, keys_is, nothing_is, pad_is, submit_a_is, submit_b_is, turn_a, turn_b}
use Rattle.round_spec.specs.Slots.{final_stage, pad_stage, submit_stage}

-- the stage of a kind
abbrev pub place_of : Shape → StageKind → ℕ
place_of shape Keys = 0
place_of shape (Submit shuffle) = submit_stage shape shuffle
place_of shape (Shuffle shuffle k) = submit_stage shape shuffle + k
place_of shape (Go shuffle) = final_stage shape shuffle - 1
place_of shape (Final shuffle) = final_stage shape shuffle
place_of shape Pad = pad_stage shape
place_of shape Check = shape.members + 5
place_of shape Confirm = shape.members + 6

-- a kind that a round has: shuffle 1 or 2, and a turn of a member
abbrev pub IsKindIn : Shape → StageKind → Type 0
IsKindIn shape (Submit shuffle) = (1 ≤ shuffle) × (shuffle ≤ 2)
IsKindIn shape (Shuffle shuffle k) = (1 ≤ shuffle) × (shuffle ≤ 2) × (1 ≤ k) × (k ≤ shape.members)
IsKindIn shape (Go shuffle) = (1 ≤ shuffle) × (shuffle ≤ 2)
IsKindIn shape (Final shuffle) = (1 ≤ shuffle) × (shuffle ≤ 2)
IsKindIn shape _ = Unit {0}

-- a stage is that of a kind of the round
pub record IsPlaced (shape : Shape) (stage : ℕ) (kind : StageKind) : Type 0 where
  pub kind_in : IsKindIn shape kind
  pub at : stage ≡ place_of shape kind

placed : (shape : Shape) (stage : ℕ) (o : Option StageKind) (known kind : StageKind) → o ≡ Some known → o ≡ Some kind
    → IsPlaced shape stage known → IsPlaced shape stage kind
placed shape stage o known kind e f is = (let both : Some known ≡ Some kind = sym e
    ∙ f in let same : known ≡ kind = cc in subst (IsPlaced shape stage) same is)

pub kind-place : (shape : Shape) (stage : ℕ) (kind : StageKind) → kind_of_stage shape stage ≡ Some kind → IsPlaced shape stage kind
kind-place shape stage kind e =
    let by : (known : StageKind) → kind_of_stage shape stage ≡ Some known → IsPlaced shape stage known → IsPlaced shape stage kind
    = λ known is. placed shape stage (kind_of_stage shape stage) known kind is e in
    elim (cases_eq stage 0) [
      | inl at ↦ by Keys (keys_is shape stage at) (record { kind_in = tt; at = at })
      | inr not0 ↦ elim (cases_eq stage 1) [
        | inl at ↦ by (Submit 1) (submit_a_is shape stage at) (record { kind_in = (omega arith, omega arith); at = at })
        | inr not1 ↦ elim (cases_lt stage (shape.members + 2)) [
          | inl lt ↦ by (Shuffle 1 (stage - 1)) (turn_a shape stage (stage - 1) (omega arith) (omega arith) (omega arith))
              (record { kind_in = (omega arith, omega arith, omega arith, omega arith); at = omega arith })
          | inr le ↦ elim (cases_eq stage (shape.members + 2)) [
            | inl at ↦ by (Go 1) (go_a_is shape stage at) (record { kind_in = (omega arith, omega arith); at = omega arith })
            | inr not2 ↦ elim (cases_eq stage (shape.members + 3)) [
              | inl at ↦ by (Final 1) (final_a_is shape stage at) (record { kind_in = (omega arith, omega arith); at = omega arith })
              | inr not3 ↦ later shape stage kind e (omega arith)
            ]
          ]
        ]
      ]
    ]
  where
    latest : (shape : Shape) (stage : ℕ) (kind : StageKind) → kind_of_stage shape stage ≡ Some kind → shape.members + 7 < stage
        → IsPlaced shape stage kind
    latest shape stage kind e least =
        let by : (known : StageKind) → kind_of_stage shape stage ≡ Some known → IsPlaced shape stage known → IsPlaced shape stage kind
        = λ known is. placed shape stage (kind_of_stage shape stage) known kind is e in
        elim (cases_lt stage (shape.members + shape.members + 8)) [
          | inl lt ↦ by (Shuffle 2 (stage - (shape.members + 7)))
              (turn_b shape stage (stage - (shape.members + 7)) (omega arith) (omega arith) (omega arith))
              (record { kind_in = (omega arith, omega arith, omega arith, omega arith); at = omega arith })
          | inr le ↦ elim (cases_eq stage (shape.members + shape.members + 8)) [
            | inl at ↦ by (Go 2) (go_b_is shape stage at) (record { kind_in = (omega arith, omega arith); at = omega arith })
            | inr not8 ↦ elim (cases_eq stage (shape.members + shape.members + 9)) [
              | inl at ↦ by (Final 2) (final_b_is shape stage at) (record { kind_in = (omega arith, omega arith); at = omega arith })
              | inr not9 ↦ absurd (let is = sym (nothing_is shape stage (omega arith)) ∙ e in cc)
            ]
          ]
        ]

    later : (shape : Shape) (stage : ℕ) (kind : StageKind) → kind_of_stage shape stage ≡ Some kind → shape.members + 3 < stage
        → IsPlaced shape stage kind
    later shape stage kind e least =
        let by : (known : StageKind) → kind_of_stage shape stage ≡ Some known → IsPlaced shape stage known → IsPlaced shape stage kind
        = λ known is. placed shape stage (kind_of_stage shape stage) known kind is e in
        elim (cases_eq stage (shape.members + 4)) [
          | inl at ↦ by Pad (pad_is shape stage at) (record { kind_in = tt; at = at })
          | inr not4 ↦ elim (cases_eq stage (shape.members + 5)) [
            | inl at ↦ by Check (check_is shape stage at) (record { kind_in = tt; at = at })
            | inr not5 ↦ elim (cases_eq stage (shape.members + 6)) [
              | inl at ↦ by Confirm (confirm_is shape stage at) (record { kind_in = tt; at = at })
              | inr not6 ↦ elim (cases_eq stage (shape.members + 7)) [
                | inl at ↦ by (Submit 2) (submit_b_is shape stage at) (record { kind_in = (omega arith, omega arith); at = at })
                | inr not7 ↦ latest shape stage kind e (omega arith)
              ]
            ]
          ]
        ]

-- who speaks at a turn is the member whose turn it is
pub turn-own : (shape : Shape) (stage sender shuffle k : ℕ) → kind_of_stage shape stage ≡ Some (Shuffle shuffle k)
    → is_slot shape stage sender ≡ true → sender ≡ k
turn-own shape stage sender shuffle k e there = eqb-true sender k (sym (ap (λ (o : Option StageKind). speaks shape o sender) e) ∙ there)

-- the end of a shuffle is no stage of submissions
pub final-apart : (shape : Shape) (stage shuffle : ℕ) → IsPlaced shape stage (Final shuffle) → (1 < stage)
    × (submit_stage shape 2 ≡ stage → ⊥)
final-apart shape stage shuffle placed = elim (cases_eq shuffle 1) [
  | inl one ↦ (let here : stage ≡ final_stage shape 1 = placed.at
      ∙ ap (final_stage shape) one in (omega (arith, here), λ e. omega (arith, e, here)))
  | inr other ↦ (
      let within = placed.kind_in in
      let two : shuffle ≡ 2 = omega (arith, within.0, within.1) in
      let here : stage ≡ final_stage shape 2 = placed.at ∙ ap (final_stage shape) two in
      (omega (arith, here), λ e. omega (arith, e, here)))
]
