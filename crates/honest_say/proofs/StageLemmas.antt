-- Where the stages of a shuffle stand, and who speaks there.
use Rattle.std.proofs.Common.{◌≡◌, ℕ, ◌+◌, ◌-◌, ◌≤◌, true, Option, Some, inl, inr, refl, sym, ap, ◌∙◌, subst, arith}
use Rattle.std.specs.Prelude.{IsSome, is_some, nat_le, option_and_then}
use Rattle.std.proofs.lemmas.Bool.{and_from, cases_eq, eq-eqb, le-leb}
use Rattle.phase_message.specs.declared.stage.StageKind.{StageKind}
use Rattle.phase_message.specs.declared.stage.StageKind.TheVariants.{Final, Go, Keys, Pad, Shuffle, Submit}
use Rattle.phase_message.specs.Shape.{Shape}
use Rattle.phase_message.specs.Stages.{is_member, is_sender, is_slot, kind_of_stage, speaks, vote_of}
use Rattle.phase_message.proofs.Table.{turn_a, turn_b, keys_is, submit_a_is, submit_b_is, go_a_is, go_b_is, final_a_is, final_b_is, pad_is, confirm_is}
use Rattle.round_spec.specs.Slots.{final_stage, pad_stage, submit_stage}

-- what holds of both shuffles
pub of_both : (P : ℕ → Type 0) (shuffle : ℕ) → 1 ≤ shuffle → shuffle ≤ 2 → P 1 → P 2 → P shuffle
of_both P shuffle least most first second =
    elim (cases_eq shuffle 1) [ inl e ↦ subst P (sym e) first | inr other ↦ subst P (let same : 2 ≡ shuffle = omega arith in same) second ]

-- ---- kinds

pub submit-kind : (shape : Shape) (shuffle : ℕ) → 1 ≤ shuffle → shuffle ≤ 2
    → kind_of_stage shape (submit_stage shape shuffle) ≡ Some (Submit shuffle)
submit-kind shape shuffle least most =
    of_both (λ s. kind_of_stage shape (submit_stage shape s) ≡ Some (Submit s)) shuffle least most (submit_a_is shape 1 refl)
    (submit_b_is shape (shape.members + 7) refl)

pub turn-kind : (shape : Shape) (shuffle turn : ℕ) → 1 ≤ shuffle → shuffle ≤ 2 → 1 ≤ turn → turn ≤ shape.members
    → kind_of_stage shape (submit_stage shape shuffle + turn) ≡ Some (Shuffle shuffle turn)
turn-kind shape shuffle turn least most first last =
    of_both (λ s. kind_of_stage shape (submit_stage shape s + turn) ≡ Some (Shuffle s turn)) shuffle least most
    (turn_a shape (1 + turn) turn (omega arith) first last) (turn_b shape (shape.members + 7 + turn) turn (omega arith) first last)

pub go-kind : (shape : Shape) (shuffle : ℕ) → 1 ≤ shuffle → shuffle ≤ 2
    → kind_of_stage shape (final_stage shape shuffle - 1) ≡ Some (Go shuffle)
go-kind shape shuffle least most =
    of_both (λ s. kind_of_stage shape (final_stage shape s - 1) ≡ Some (Go s)) shuffle least most
    (go_a_is shape (1 + (shape.members + 2) - 1) (omega arith)) (go_b_is shape (shape.members + 7 + (shape.members + 2) - 1) (omega arith))

pub final-kind : (shape : Shape) (shuffle : ℕ) → 1 ≤ shuffle → shuffle ≤ 2
    → kind_of_stage shape (final_stage shape shuffle) ≡ Some (Final shuffle)
final-kind shape shuffle least most =
    of_both (λ s. kind_of_stage shape (final_stage shape s) ≡ Some (Final s)) shuffle least most
    (final_a_is shape (1 + (shape.members + 2)) (omega arith)) (final_b_is shape (shape.members + 7 + (shape.members + 2)) (omega arith))

-- these close votes
pub final-closes : (shape : Shape) (shuffle : ℕ) → 1 ≤ shuffle → shuffle ≤ 2
    → IsSome (option_and_then vote_of (kind_of_stage shape (final_stage shape shuffle)))
final-closes shape shuffle least most = ap (λ (o : Option StageKind). is_some (option_and_then vote_of o))
    (final-kind shape shuffle least most)

pub confirm-closes : (shape : Shape) → IsSome (option_and_then vote_of (kind_of_stage shape (shape.members + 6)))
confirm-closes shape = ap (λ (o : Option StageKind). is_some (option_and_then vote_of o)) (confirm_is shape (shape.members + 6) refl)

-- ---- slots

pub member-there : (n sender : ℕ) → 1 ≤ sender → sender ≤ n → is_member n sender ≡ true
member-there n sender least most = and_from (nat_le 1 sender) (nat_le sender n) (le-leb 1 sender least) (le-leb sender n most)

slot-of : (shape : Shape) (stage sender : ℕ) (kind : StageKind) → kind_of_stage shape stage ≡ Some kind → is_sender shape kind sender ≡ true
    → is_slot shape stage sender ≡ true
slot-of shape stage sender kind at speaks_there = ap (λ (o : Option StageKind). speaks shape o sender) at ∙ speaks_there

pub keys-slot : (shape : Shape) (sender : ℕ) → 1 ≤ sender → sender ≤ shape.members → is_slot shape 0 sender ≡ true
keys-slot shape sender least most = slot-of shape 0 sender Keys (keys_is shape 0 refl) (member-there shape.members sender least most)

pub submit-slot : (shape : Shape) (shuffle sender : ℕ) → 1 ≤ shuffle → shuffle ≤ 2 → 1 ≤ sender → sender ≤ shape.members
    → is_slot shape (submit_stage shape shuffle) sender ≡ true
submit-slot shape shuffle sender first last least most =
    slot-of shape (submit_stage shape shuffle) sender (Submit shuffle) (submit-kind shape shuffle first last)
    (member-there shape.members sender least most)

pub turn-slot : (shape : Shape) (shuffle turn : ℕ) → 1 ≤ shuffle → shuffle ≤ 2 → 1 ≤ turn → turn ≤ shape.members
    → is_slot shape (submit_stage shape shuffle + turn) turn ≡ true
turn-slot shape shuffle turn first last least most =
    slot-of shape (submit_stage shape shuffle + turn) turn (Shuffle shuffle turn) (turn-kind shape shuffle turn first last least most)
    (eq-eqb turn turn refl)

pub pad-slot : (shape : Shape) (sender : ℕ) → 1 ≤ sender → sender ≤ shape.members → is_slot shape (pad_stage shape) sender ≡ true
pad-slot shape sender least most = slot-of shape (pad_stage shape) sender Pad (pad_is shape (pad_stage shape) refl)
    (member-there shape.members sender least most)

pub final-slot : (shape : Shape) (shuffle sender : ℕ) → 1 ≤ shuffle → shuffle ≤ 2 → 1 ≤ sender → sender ≤ shape.members
    → is_slot shape (final_stage shape shuffle) sender ≡ true
final-slot shape shuffle sender first last least most =
    slot-of shape (final_stage shape shuffle) sender (Final shuffle) (final-kind shape shuffle first last)
    (member-there shape.members sender least most)
