-- An object of the outside over a call: its count of faults and what it held before, and both now.
use Rattle.std.specs.Prelude.{ℕ}
use Rattle.outside.specs.Faults.{Rose}

-- what a call made of an object that holds an A, as far as the object tells
pub record Change (A : Type 0) : Type 0 where
  pub faults_before : ℕ
  pub faults_now : ℕ
  pub before : A
  pub now : A

-- the change of an object from one state to another, by what its count of faults and its content are
abbrev pub change_of : {S A : Type 0} → (faults : S → ℕ) → (told : S → A) → (old new : S) → Change A
change_of faults told old new = record {
  faults_before = faults old;
  faults_now = faults new;
  before = told old;
  now = told new;
}

-- a call of the object failed
abbrev pub Failed : {A : Type 0} → Change A → Type 0
Failed change = Rose change.faults_before change.faults_now
