-- The bits of the members whose posts are missing.
use Rattle.std.proofs.Common.{◌≡◌, ◌≢◌, ℕ, zero, suc, ◌+◌, ◌-◌, ◌^◌, ◌<◌, ◌≤◌, Bool, true, false, List, [], ◌∷◌, Option, Some, None, ap, sym, ◌∙◌, refl, arith, inl, inr}
use Rattle.std.specs.Prelude.{◌&&◌, filter, is_none, nat_eq, if◌then◌else◌}
use Rattle.std.specs.List.{range_with_len, sum_by}
use Rattle.std.specs.Option.{option_map_or}
use Rattle.std.proofs.lemmas.Bool.{cases_lt, cond-false, eq-eqb, eqb-true, false_from_ne_true}
use Rattle.std.proofs.lemmas.List.Sums.{sum_by-cons}
use Rattle.phase_message.specs.declared.stage.StageKind.{StageKind}
use Rattle.phase_message.specs.declared.stage.StageKind.TheVariants.{Keys, Submit, Shuffle, Go, Final, Pad, Check, Confirm}
use Rattle.phase_message.specs.Slots.{senders_in, stage_count}
use Rattle.phase_message.specs.Stages.{is_slot, kind_of_stage, speaks}
use Rattle.phase_message.proofs.SlotBounds.{slot-bounds}
use Rattle.stage_log.specs.Table.{Log, is_missing, kept_in, missing_bit, missing_bits}
use Rattle.member_spec.specs.Outcomes.{bits_of}

-- ---- sums

-- the values of the elements that pass are summed, and 0 for each other
passing-sum : (f : ℕ → ℕ) (p : ℕ → Bool) (xs : List ℕ) → sum_by f (filter p xs) ≡ sum_by (λ x. if p x then f x else 0) xs
passing-sum f p [] = refl
passing-sum f p (x ∷ xs) = by_first (p x) (passing-sum f p xs) ∙ sym (sum_by-cons (λ y. if p y then f y else 0) x xs)
  where
    by_first : (b : Bool) → sum_by f (filter p xs) ≡ sum_by (λ y. if p y then f y else 0) xs
        → sum_by f (if b then x ∷ filter p xs else filter p xs) ≡ (if b then f x else 0) + sum_by (λ y. if p y then f y else 0) xs
    by_first true rest = sum_by-cons f x (filter p xs) ∙ ap (λ (n : ℕ). f x + n) rest
    by_first false rest = rest ∙ sym (let none : 0 + sum_by (λ y. if p y then f y else 0) xs ≡ sum_by (λ y. if p y then f y else 0) xs =
        omega arith in none)

range-none : (g : ℕ → ℕ) (a n : ℕ) → ((m : ℕ) → a ≤ m → g m ≡ 0) → sum_by g (range_with_len a n) ≡ 0
range-none g a zero none = refl
range-none g a (suc n) none =
    let here = none a (omega arith) in
    let rest = range-none g (a + 1) n (λ m le. none m (omega arith)) in
    sum_by-cons g a (range_with_len (a + 1) n) ∙ omega (arith, here, rest)

-- where one number alone has a value, the sum is this
range-single : (g : ℕ → ℕ) (k a n : ℕ) → ((m : ℕ) → m ≢ k → g m ≡ 0) → a ≤ k → k < a + n → sum_by g (range_with_len a n) ≡ g k
range-single g k a zero others le lt = absurd (omega (arith, lt))
range-single g k a (suc n) others le lt = elim (cases_lt a k) [
  | inl before_it ↦
      let here = others a (λ e. absurd (omega (arith, e))) in
      let rest = range-single g k (a + 1) n others (omega arith) (omega (arith, lt)) in
      sum_by-cons g a (range_with_len (a + 1) n) ∙ omega (arith, here, rest)
  | inr now ↦
      let same : a ≡ k = omega arith in
      let rest = range-none g (a + 1) n (λ m le. others m (λ e. absurd (omega (arith, e)))) in
      sum_by-cons g a (range_with_len (a + 1) n) ∙ ap (λ (r : ℕ). g a + r) rest ∙ (let none : g a + 0 ≡ g a = omega arith in none)
      ∙ ap g same
]

-- ---- bits

-- who does not speak has no bit
silent-bit : (log : Log) (stage member : ℕ) → is_slot log.shape stage member ≡ false → missing_bit log stage member ≡ 0
silent-bit log stage member silent =
    cond-false (is_missing log stage member) _ 0 (ap (λ (b : Bool). b && is_none (kept_in log (record { stage = stage; sender = member })))
    silent)

by-sum : (log : Log) (stage : ℕ) (xs : List ℕ) → bits_of (filter (is_missing log stage) xs) ≡ sum_by (missing_bit log stage) xs
by-sum log stage xs = passing-sum (λ member. 2 ^ (member - 1)) (is_missing log stage) xs

turn-bits : (log : Log) (stage shuffle k : ℕ) → kind_of_stage log.shape stage ≡ Some (Shuffle shuffle k)
    → bits_of (filter (is_missing log stage) (k ∷ [])) ≡ missing_bits log stage
turn-bits log stage shuffle k e =
    by-sum log stage (k ∷ []) ∙ sum_by-cons (missing_bit log stage) k []
    ∙ (let none : missing_bit log stage k + 0 ≡ missing_bit log stage k = omega arith in none)
    ∙ sym (range-single (missing_bit log stage) k 1 log.shape.members others within.1 (let most = within.2 in omega arith))
  where
    speaks_at : (member : ℕ) → is_slot log.shape stage member ≡ nat_eq member k
    speaks_at member = ap (λ (o : Option StageKind). speaks log.shape o member) e

    within : (stage < stage_count log.shape) × (1 ≤ k) × (k ≤ log.shape.members)
    within = slot-bounds log.shape stage k (speaks_at k ∙ eq-eqb k k refl)

    others : (m : ℕ) → m ≢ k → missing_bit log stage m ≡ 0
    others m apart = silent-bit log stage m (speaks_at m ∙ false_from_ne_true (nat_eq m k) (λ same. apart (eqb-true m k same)))

-- the bits of those whose posts are missing among the senders of a stage are all bits of the stage
pub bits-missing : (log : Log) (stage : ℕ)
    → bits_of (filter (is_missing log stage) (option_map_or (senders_in log.shape) (kind_of_stage log.shape stage) [])) ≡ missing_bits log
    stage
bits-missing log stage = by_kind (kind_of_stage log.shape stage) refl
  where
    chosen : (o : Option StageKind) → kind_of_stage log.shape stage ≡ o
        → bits_of (filter (is_missing log stage) (option_map_or (senders_in log.shape) (kind_of_stage log.shape stage) [])) ≡ bits_of
        (filter (is_missing log stage) (option_map_or (senders_in log.shape) o []))
    chosen o e = ap (λ (kind : Option StageKind). bits_of (filter (is_missing log stage) (option_map_or (senders_in log.shape) kind []))) e

    all : bits_of (filter (is_missing log stage) (range_with_len 1 log.shape.members)) ≡ missing_bits log stage
    all = by-sum log stage (range_with_len 1 log.shape.members)

    by_kind : (o : Option StageKind) → kind_of_stage log.shape stage ≡ o
        → bits_of (filter (is_missing log stage) (option_map_or (senders_in log.shape) (kind_of_stage log.shape stage) [])) ≡ missing_bits
        log stage
    by_kind None e = chosen None e
        ∙ sym (range-none (missing_bit log stage) 1 log.shape.members
        (λ m le. silent-bit log stage m (ap (λ (o : Option StageKind). speaks log.shape o m) e)))
    by_kind (Some (Shuffle shuffle k)) e = chosen (Some (Shuffle shuffle k)) e ∙ turn-bits log stage shuffle k e
    by_kind (Some Keys) e = chosen (Some Keys) e ∙ all
    by_kind (Some (Submit shuffle)) e = chosen (Some (Submit shuffle)) e ∙ all
    by_kind (Some (Go shuffle)) e = chosen (Some (Go shuffle)) e ∙ all
    by_kind (Some (Final shuffle)) e = chosen (Some (Final shuffle)) e ∙ all
    by_kind (Some Pad) e = chosen (Some Pad) e ∙ all
    by_kind (Some Check) e = chosen (Some Check) e ∙ all
    by_kind (Some Confirm) e = chosen (Some Confirm) e ∙ all
