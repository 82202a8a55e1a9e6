-- Where the stages of a shuffle are.
use Rattle.std.proofs.Common.{◌≡◌, ◌⊎◌, ℕ, ◌+◌, ◌-◌, ◌<◌, ◌≤◌, false, Option, Some, inl, inr, sym, ap, ◌∙◌, arith}
use Rattle.std.specs.Prelude.{◌==◌}
use Rattle.std.proofs.lemmas.Bool.{cases_eq, cases_lt, cond-false, cond-true, eq-eqb}
use Rattle.phase_message.specs.declared.stage.StageKind.{StageKind}
use Rattle.phase_message.specs.declared.stage.StageKind.TheVariants.{Keys, Submit, Shuffle, Pad}
use Rattle.phase_message.specs.Shape.{Shape}
use Rattle.phase_message.specs.Stages.{kind_of_stage}
use Rattle.phase_message.proofs.Table.{check_is, confirm_is, final_a_is, final_b_is, go_a_is, go_b_is, keys_is, nothing_is, pad_is, submit_a_is, submit_b_is, turn_a, turn_b}
use Rattle.round_spec.specs.Slots.{submit_stage}

-- a round has two shuffles
abbrev pub IsShuffle : ℕ → Type 0
IsShuffle shuffle = (shuffle ≡ 1) ⊎ (shuffle ≡ 2)

pub submit-a : (shape : Shape) (shuffle : ℕ) → shuffle ≡ 1 → submit_stage shape shuffle ≡ 1
submit-a shape shuffle a = cond-true (shuffle == 1) 1 (shape.members + 7) (eq-eqb shuffle 1 a)

pub submit-b : (shape : Shape) (shuffle : ℕ) → shuffle ≡ 2 → submit_stage shape shuffle ≡ shape.members + 7
submit-b shape shuffle b = cond-false (shuffle == 1) 1 (shape.members + 7) (ap (λ (s : ℕ). s == 1) b)

-- the kinds of its stages
pub submit-kind : (shape : Shape) (shuffle : ℕ) → IsShuffle shuffle
    → kind_of_stage shape (submit_stage shape shuffle) ≡ Some (Submit shuffle)
submit-kind shape shuffle (inl a) = submit_a_is shape (submit_stage shape shuffle) (submit-a shape shuffle a)
    ∙ ap (λ (s : ℕ). Some (Submit s)) (sym a)
submit-kind shape shuffle (inr b) = submit_b_is shape (submit_stage shape shuffle) (submit-b shape shuffle b)
    ∙ ap (λ (s : ℕ). Some (Submit s)) (sym b)

pub turn-kind : (shape : Shape) (shuffle k : ℕ) → IsShuffle shuffle → 1 ≤ k → k ≤ shape.members
    → kind_of_stage shape (submit_stage shape shuffle + k) ≡ Some (Shuffle shuffle k)
turn-kind shape shuffle k (inl a) least most = turn_a shape (submit_stage shape shuffle + k) k (omega (arith, submit-a shape shuffle a))
    least most ∙ ap (λ (s : ℕ). Some (Shuffle s k)) (sym a)
turn-kind shape shuffle k (inr b) least most = turn_b shape (submit_stage shape shuffle + k) k (omega (arith, submit-b shape shuffle b))
    least most ∙ ap (λ (s : ℕ). Some (Shuffle s k)) (sym b)

-- ---- which stage a kind has

-- a turn, with its stage
pub record TurnAt (shape : Shape) (stage shuffle k : ℕ) : Type 0 where
  pub is : IsShuffle shuffle
  pub least : 1 ≤ k
  pub most : k ≤ shape.members
  pub at : stage ≡ submit_stage shape shuffle + k

record SameTurn (x y i j : ℕ) : Type 0 where
  pub shuffle : x ≡ y
  pub turn : i ≡ j

same-turn : (o : Option StageKind) (x y i j : ℕ) → o ≡ Some (Shuffle x i) → o ≡ Some (Shuffle y j) → SameTurn x y i j
same-turn o x y i j e f = let both : Some (Shuffle x i) ≡ Some (Shuffle y j) = sym e ∙ f in record { shuffle = cc; turn = cc }

turn-from-a : (shape : Shape) (stage shuffle k : ℕ) → kind_of_stage shape stage ≡ Some (Shuffle shuffle k) → 2 ≤ stage
    → stage < shape.members + 2
    → TurnAt shape stage shuffle k
turn-from-a shape stage shuffle k e least most =
    let same = same-turn (kind_of_stage shape stage) 1 shuffle (stage - 1) k
    (turn_a shape stage (stage - 1) (omega arith) (omega arith) (omega arith)) e in
    let turn = same.turn in
    record {
      is = inl (sym same.shuffle);
      least = omega arith;
      most = omega arith;
      at = omega
          (arith, submit-a shape shuffle (sym same.shuffle));
    }

turn-from-b : (shape : Shape) (stage shuffle k : ℕ) → kind_of_stage shape stage ≡ Some (Shuffle shuffle k) → shape.members + 7 < stage
    → stage < shape.members + shape.members + 8 → TurnAt shape stage shuffle k
turn-from-b shape stage shuffle k e least most =
    let same = same-turn (kind_of_stage shape stage) 2 shuffle (stage - (shape.members + 7)) k
    (turn_b shape stage (stage - (shape.members + 7)) (omega arith) (omega arith) (omega arith)) e in
    let turn = same.turn in
    record {
      is = inr (sym same.shuffle);
      least = omega arith;
      most = omega arith;
      at = omega
          (arith, submit-b shape shuffle (sym same.shuffle));
    }

-- a stage between the turns of the two shuffles is no turn
no-turn : (shape : Shape) (stage shuffle k : ℕ) → kind_of_stage shape stage ≡ Some (Shuffle shuffle k) → shape.members + 1 < stage
    → stage < shape.members + 8 → ⊥
no-turn shape stage shuffle k e least most =
    elim (cases_eq stage (shape.members + 2)) [
      | inl at ↦ (let is = sym (go_a_is shape stage at) ∙ e in cc)
      | inr not2 ↦ elim (cases_eq stage (shape.members + 3)) [
        | inl at ↦ (let is = sym (final_a_is shape stage at) ∙ e in cc)
        | inr not3 ↦ elim (cases_eq stage (shape.members + 4)) [
          | inl at ↦ (let is = sym (pad_is shape stage at) ∙ e in cc)
          | inr not4 ↦ elim (cases_eq stage (shape.members + 5)) [
            | inl at ↦ (let is = sym (check_is shape stage at) ∙ e in cc)
            | inr not5 ↦ elim (cases_eq stage (shape.members + 6)) [
              | inl at ↦ (let is = sym (confirm_is shape stage at) ∙ e in cc)
              | inr not6 ↦ (let is = sym (submit_b_is shape stage (omega arith)) ∙ e in cc)
            ]
          ]
        ]
      ]
    ]

-- nor is one behind the turns of shuffle B
past-turns : (shape : Shape) (stage shuffle k : ℕ) → kind_of_stage shape stage ≡ Some (Shuffle shuffle k)
    → shape.members + shape.members + 8 ≤ stage → ⊥
past-turns shape stage shuffle k e least =
    elim (cases_eq stage (shape.members + shape.members + 8)) [
      | inl at ↦ (let is = sym (go_b_is shape stage at) ∙ e in cc)
      | inr not8 ↦ elim (cases_eq stage (shape.members + shape.members + 9)) [
        | inl at ↦ (let is = sym (final_b_is shape stage at) ∙ e in cc)
        | inr not9 ↦ (let is = sym (nothing_is shape stage (omega arith)) ∙ e in cc)
      ]
    ]

pub turn-at : (shape : Shape) (stage shuffle k : ℕ) → kind_of_stage shape stage ≡ Some (Shuffle shuffle k) → TurnAt shape stage shuffle k
turn-at shape stage shuffle k e =
    elim (cases_eq stage 0) [
      | inl at ↦ absurd (let is = sym (keys_is shape stage at) ∙ e in cc)
      | inr not0 ↦ elim (cases_eq stage 1) [
        | inl at ↦ absurd (let is = sym (submit_a_is shape stage at) ∙ e in cc)
        | inr not1 ↦ elim (cases_lt stage (shape.members + 2)) [
          | inl a ↦ turn-from-a shape stage shuffle k e (omega arith) a
          | inr le ↦ elim (cases_lt stage (shape.members + 8)) [
            | inl lt ↦ absurd (no-turn shape stage shuffle k e (omega arith) lt)
            | inr le8 ↦ elim (cases_lt stage (shape.members + shape.members + 8)) [
              | inl b ↦ turn-from-b shape stage shuffle k e (omega arith) b
              | inr le_all ↦ absurd (past-turns shape stage shuffle k e le_all)
            ]
          ]
        ]
      ]
    ]

-- ---- stages behind the turns of shuffle A

-- a stage up to the last turn of shuffle A has its keys, its submissions or a turn
data IsEarly (kind : StageKind) : Type 0 where
  OfKeys : kind ≡ Keys → IsEarly kind
  OfSubmit : kind ≡ Submit 1 → IsEarly kind
  OfTurn : (k : ℕ) → kind ≡ Shuffle 1 k → IsEarly kind

some-kind : (o : Option StageKind) (a b : StageKind) → o ≡ Some a → o ≡ Some b → b ≡ a
some-kind o a b e f = let both : Some a ≡ Some b = sym e ∙ f in cc

early-kind : (shape : Shape) (stage : ℕ) (kind : StageKind) → kind_of_stage shape stage ≡ Some kind → stage < shape.members + 2
    → IsEarly kind
early-kind shape stage kind e lt =
    elim (cases_eq stage 0) [
      | inl at ↦ OfKeys (some-kind (kind_of_stage shape stage) Keys kind (keys_is shape stage at) e)
      | inr not0 ↦ elim (cases_eq stage 1) [
        | inl at ↦ OfSubmit (some-kind (kind_of_stage shape stage) (Submit 1) kind (submit_a_is shape stage at) e)
        | inr not1 ↦ OfTurn (stage - 1) (some-kind (kind_of_stage shape stage) (Shuffle 1 (stage - 1)) kind
            (turn_a shape stage (stage - 1) (omega arith) (omega arith) (omega arith)) e)
      ]
    ]

late-unless : (shape : Shape) (stage : ℕ) (kind : StageKind) → kind_of_stage shape stage ≡ Some kind → (IsEarly kind → ⊥)
    → shape.members + 1 < stage
late-unless shape stage kind e never = elim (cases_lt stage (shape.members + 2)) [
  | inl lt ↦ absurd (never (early-kind shape stage kind e lt))
  | inr le ↦ omega arith
]

-- the pads are behind them
pub pad-late : (shape : Shape) (stage : ℕ) → kind_of_stage shape stage ≡ Some Pad → shape.members + 1 < stage
pad-late shape stage e = late-unless shape stage Pad e never
  where
    never : IsEarly Pad → ⊥
    never (OfKeys is) = cc
    never (OfSubmit is) = cc
    never (OfTurn k is) = cc

-- and so are the submissions of shuffle B
pub submit-late : (shape : Shape) (stage shuffle : ℕ) → kind_of_stage shape stage ≡ Some (Submit shuffle) → (shuffle == 1) ≡ false
    → shape.members + 1 < stage
submit-late shape stage shuffle e other = late-unless shape stage (Submit shuffle) e never
  where
    never : IsEarly (Submit shuffle) → ⊥
    never (OfKeys is) = cc
    never (OfSubmit is) = (let same : shuffle ≡ 1 = cc in let both = sym (eq-eqb shuffle 1 same) ∙ other in cc)
    never (OfTurn k is) = cc
