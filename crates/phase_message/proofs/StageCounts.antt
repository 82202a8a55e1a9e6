-- How many slots there are before some stages of a round, and the one stage that closes the checks.
use Rattle.std.proofs.Common.{◌≡◌, ℕ, zero, suc, ◌+◌, ◌-◌, ◌*◌, ◌<◌, ◌≤◌, Some, refl, sym, ap, ◌∙◌, arith, inl, inr}
use Rattle.std.proofs.lemmas.Bool.{cases_eq, cases_lt}
use Rattle.phase_message.specs.declared.stage.StageKind.TheVariants.{Keys as AtKeys, Submit as AtSubmit, Shuffle as AtShuffle, Go as AtGo, Final as AtFinal, Pad as AtPad, Check as AtCheck, Confirm as AtConfirm}
use Rattle.phase_message.specs.Shape.{Shape}
use Rattle.phase_message.specs.Slots.{slots_before}
use Rattle.phase_message.specs.Stages.{kind_of_stage}
use Rattle.phase_message.proofs.Counts.{slots_next}
use Rattle.phase_message.proofs.Table.{check_is, final_a_is, final_b_is, go_a_is, go_b_is, keys_is, nothing_is, pad_is, submit_a_is, submit_b_is, turn_a, turn_b}

-- ---- how many

pub before-turn : (shape : Shape) (k : ℕ) → k ≤ shape.members → slots_before shape (2 + k) ≡ shape.members + shape.members + k
before-turn shape zero most =
    let keys = slots_next shape 0 AtKeys (keys_is shape 0 refl) in
    let submit = slots_next shape 1 (AtSubmit 1) (submit_a_is shape 1 refl) in
    omega (arith, keys, submit)
before-turn shape (suc k) most =
    let same : 2 + suc k ≡ 2 + k + 1 = omega arith in
    let next = slots_next shape (2 + k) (AtShuffle 1 (k + 1)) (turn_a shape (2 + k) (k + 1) (omega arith) (omega arith) (omega arith)) in
    omega (arith, ap (slots_before shape) same, next, before-turn shape k (omega arith))

-- four of each member before the first shuffle ends
pub before-end : (shape : Shape) → slots_before shape (shape.members + 3) ≡ 4 * shape.members
before-end shape =
    let n : ℕ = shape.members in
    let turns = before-turn shape n (omega arith) in
    let votes_at : 2 + n ≡ n + 2 = omega arith in
    let votes = slots_next shape (n + 2) (AtGo 1) (go_a_is shape (n + 2) refl) in
    let at : n + 2 + 1 ≡ n + 3 = omega arith in
    omega (arith, turns, ap (slots_before shape) votes_at, votes, ap (slots_before shape) at)

-- five before the pads
pub before-pads : (shape : Shape) → slots_before shape (shape.members + 4) ≡ 5 * shape.members
before-pads shape =
    let n : ℕ = shape.members in
    let ends = slots_next shape (n + 3) (AtFinal 1) (final_a_is shape (n + 3) refl) in
    let at : n + 3 + 1 ≡ n + 4 = omega arith in
    omega (arith, before-end shape, ends, ap (slots_before shape) at)

-- seven before the checks are closed
pub before-confirm : (shape : Shape) → slots_before shape (shape.members + 6) ≡ 7 * shape.members
before-confirm shape =
    let n : ℕ = shape.members in
    let pads = slots_next shape (n + 4) AtPad (pad_is shape (n + 4) refl) in
    let checks_at : n + 4 + 1 ≡ n + 5 = omega arith in
    let checks = slots_next shape (n + 5) AtCheck (check_is shape (n + 5) refl) in
    let at : n + 5 + 1 ≡ n + 6 = omega arith in
    omega (arith, before-pads shape, pads, ap (slots_before shape) checks_at, checks, ap (slots_before shape) at)

-- ---- where

-- the checks are closed at one stage
pub confirm-at : (shape : Shape) (stage : ℕ) → kind_of_stage shape stage ≡ Some AtConfirm → stage ≡ shape.members + 6
confirm-at shape stage e =
    elim (cases_eq stage (shape.members + 6)) [
      | inl at ↦ at
      | inr not_there ↦ absurd (elim (cases_lt stage (shape.members + 6)) [ inl lt ↦ before_it lt | inr le ↦ behind_it (omega arith) ])
    ]
  where
    before_it : stage < shape.members + 6 → ⊥
    before_it lt = elim (cases_eq stage 0) [
      | inl at ↦ (let is = sym (keys_is shape stage at) ∙ e in cc)
      | inr no0 ↦ elim (cases_eq stage 1) [
        | inl at ↦ (let is = sym (submit_a_is shape stage at) ∙ e in cc)
        | inr no1 ↦ elim (cases_eq stage (shape.members + 2)) [
          | inl at ↦ (let is = sym (go_a_is shape stage at) ∙ e in cc)
          | inr no2 ↦ elim (cases_eq stage (shape.members + 3)) [
            | inl at ↦ (let is = sym (final_a_is shape stage at) ∙ e in cc)
            | inr no3 ↦ elim (cases_eq stage (shape.members + 4)) [
              | inl at ↦ (let is = sym (pad_is shape stage at) ∙ e in cc)
              | inr no4 ↦ elim (cases_eq stage (shape.members + 5)) [
                | inl at ↦ (let is = sym (check_is shape stage at) ∙ e in cc)
                | inr no5 ↦ (let is = sym (turn_a shape stage (stage - 1) (omega arith) (omega arith) (omega arith)) ∙ e in cc)
              ]
            ]
          ]
        ]
      ]
    ]

    behind_it : shape.members + 6 < stage → ⊥
    behind_it lt = elim (cases_eq stage (shape.members + 7)) [
      | inl at ↦ (let is = sym (submit_b_is shape stage at) ∙ e in cc)
      | inr no7 ↦ elim (cases_eq stage (shape.members + shape.members + 8)) [
        | inl at ↦ (let is = sym (go_b_is shape stage at) ∙ e in cc)
        | inr no8 ↦ elim (cases_eq stage (shape.members + shape.members + 9)) [
          | inl at ↦ (let is = sym (final_b_is shape stage at) ∙ e in cc)
          | inr no9 ↦ elim (cases_lt stage (shape.members + shape.members + 8)) [
            | inl turn ↦ (let is = sym (turn_b shape stage (stage - (shape.members + 7)) (omega arith) (omega arith) (omega arith))
                ∙ e in cc)
            | inr past ↦ (let is = sym (nothing_is shape stage (omega arith)) ∙ e in cc)
          ]
        ]
      ]
    ]
