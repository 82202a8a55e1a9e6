-- The stages of a shuffle that ended.
use Rattle.std.proofs.Common.{◌≡◌, ◌⊎◌, ℕ, ◌+◌, ◌-◌, ◌<◌, ◌≤◌, Option, Some, inl, inr, sym, ap, ◌∙◌, arith}
use Rattle.std.proofs.lemmas.Bool.{cases_lt, cases_eq}
use Rattle.phase_message.specs.declared.stage.StageKind.{StageKind}
use Rattle.phase_message.specs.declared.stage.StageKind.TheVariants.{Submit, Shuffle, Final}
use Rattle.phase_message.specs.Shape.{Shape}
use Rattle.phase_message.specs.Stages.{kind_of_stage}
use Rattle.phase_message.proofs.Table.{turn_a, turn_b, keys_is, submit_a_is, go_a_is, final_a_is, pad_is, check_is, confirm_is, submit_b_is, go_b_is, final_b_is, nothing_is}

-- which shuffle ends at a stage, and where that is
abbrev pub EndsAt : Shape → ℕ → ℕ → Type 0
EndsAt shape stage shuffle = ((shuffle ≡ 1) × (stage ≡ shape.members + 3)) ⊎ ((shuffle ≡ 2) × (stage ≡ shape.members + shape.members + 9))

-- a stage before the end of shuffle A ends none
early : (shape : Shape) (stage shuffle : ℕ) → kind_of_stage shape stage ≡ Some (Final shuffle) → stage < shape.members + 3 → ⊥
early shape stage shuffle e lt =
    elim (cases_eq stage 0) [
      | inl at ↦ (let is = sym (keys_is shape stage at) ∙ e in cc)
      | inr no0 ↦ elim (cases_eq stage 1) [
        | inl at ↦ (let is = sym (submit_a_is shape stage at) ∙ e in cc)
        | inr no1 ↦ elim (cases_eq stage (shape.members + 2)) [
          | inl at ↦ (let is = sym (go_a_is shape stage at) ∙ e in cc)
          | inr no2 ↦ (let is = sym (turn_a shape stage (stage - 1) (omega arith) (omega arith) (omega arith)) ∙ e in cc)
        ]
      ]
    ]

same_shuffle : (o : Option StageKind) (x y : ℕ) → o ≡ Some (Final x) → o ≡ Some (Final y) → y ≡ x
same_shuffle o x y e f = let both : Some (Final x) ≡ Some (Final y) = sym e ∙ f in cc

-- nor does one between the ends
between : (shape : Shape) (stage shuffle : ℕ) → kind_of_stage shape stage ≡ Some (Final shuffle) → shape.members + 3 < stage
    → stage < shape.members + shape.members + 9 → ⊥
between shape stage shuffle e le lt =
    elim (cases_eq stage (shape.members + 4)) [
      | inl at ↦ (let is = sym (pad_is shape stage at) ∙ e in cc)
      | inr no4 ↦ elim (cases_eq stage (shape.members + 5)) [
        | inl at ↦ (let is = sym (check_is shape stage at) ∙ e in cc)
        | inr no5 ↦ elim (cases_eq stage (shape.members + 6)) [
          | inl at ↦ (let is = sym (confirm_is shape stage at) ∙ e in cc)
          | inr no6 ↦ elim (cases_eq stage (shape.members + 7)) [
            | inl at ↦ (let is = sym (submit_b_is shape stage at) ∙ e in cc)
            | inr no7 ↦ elim (cases_eq stage (shape.members + shape.members + 8)) [
              | inl at ↦ (let is = sym (go_b_is shape stage at) ∙ e in cc)
              | inr no8 ↦ (let is = sym (turn_b shape stage (stage - (shape.members + 7)) (omega arith) (omega arith) (omega arith))
                  ∙ e in cc)
            ]
          ]
        ]
      ]
    ]

pub ends_at : (shape : Shape) (stage shuffle : ℕ) → kind_of_stage shape stage ≡ Some (Final shuffle) → EndsAt shape stage shuffle
ends_at shape stage shuffle e =
    elim (cases_eq stage (shape.members + 3)) [
      | inl at ↦ inl (same_shuffle (kind_of_stage shape stage) 1 shuffle (final_a_is shape stage at) e, at)
      | inr not_a ↦ elim (cases_eq stage (shape.members + shape.members + 9)) [
        | inl at ↦ inr (same_shuffle (kind_of_stage shape stage) 2 shuffle (final_b_is shape stage at) e, at)
        | inr not_b ↦ elim (cases_lt stage (shape.members + 3)) [
          | inl lt ↦ absurd (early shape stage shuffle e lt)
          | inr le ↦ elim (cases_lt stage (shape.members + shape.members + 9)) [
            | inl lt ↦ absurd (between shape stage shuffle e (omega arith) lt)
            | inr past ↦ absurd (let is = sym (nothing_is shape stage (omega arith)) ∙ e in cc)
          ]
        ]
      ]
    ]

-- the stage of the submissions, and those of the turns
pub submit_there : (shape : Shape) (stage shuffle : ℕ) → kind_of_stage shape stage ≡ Some (Final shuffle)
    → kind_of_stage shape (stage - (shape.members + 2)) ≡ Some (Submit shuffle)
submit_there shape stage shuffle e =
    elim (ends_at shape stage shuffle e) [
      | inl a ↦ submit_a_is shape (stage - (shape.members + 2)) (omega (arith, a.1)) ∙ ap (λ (s : ℕ). Some (Submit s)) (sym a.0)
      | inr b ↦ submit_b_is shape (stage - (shape.members + 2)) (omega (arith, b.1)) ∙ ap (λ (s : ℕ). Some (Submit s)) (sym b.0)
    ]

pub turn_there : (shape : Shape) (stage shuffle turn : ℕ) → kind_of_stage shape stage ≡ Some (Final shuffle) → 1 ≤ turn
    → turn ≤ shape.members
    → kind_of_stage shape (stage - (shape.members + 2) + turn) ≡ Some (Shuffle shuffle turn)
turn_there shape stage shuffle turn e least most =
    elim (ends_at shape stage shuffle e) [
      | inl a ↦ turn_a shape (stage - (shape.members + 2) + turn) turn (omega (arith, a.1)) least most
          ∙ ap (λ (s : ℕ). Some (Shuffle s turn)) (sym a.0)
      | inr b ↦ turn_b shape (stage - (shape.members + 2) + turn) turn (omega (arith, b.1)) least most
          ∙ ap (λ (s : ℕ). Some (Shuffle s turn)) (sym b.0)
    ]
