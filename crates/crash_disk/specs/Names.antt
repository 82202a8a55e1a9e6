-- The names of a disk: which one is chosen, and what stands under each.
use Rattle.std.specs.Prelude.{◌≡◌, ◌≢◌, ℕ, List, Option, Some, None, IsSome, IfSome, IsSomeAnd, Bool, true, false}
use Rattle.crash_disk.specs.declared.disk.DiskAnswer.{DiskAnswer}
use Rattle.crash_disk.specs.declared.disk.DiskAnswer.TheVariants.{Done, Failed}

-- the name that is chosen, and the bytes of each name, where a file stands under it
pub record Names : Type 0 where
  pub chosen : Option (List ℕ)
  pub held : List ℕ → Option (List ℕ)

-- the chosen name stays, and what stands under all others
pub record KeepsOthers (before now : Names) : Type 0 where
  pub chosen : now.chosen ≡ before.chosen
  pub others : (name : List ℕ) → before.chosen ≢ Some name → now.held name ≡ before.held name

-- a name was chosen: a fresh one under which nothing stood, or one under which a file stands; all other names stay
pub record IsChosen (before now : Names) (name : List ℕ) (fresh : Bool) : Type 0 where
  pub chosen : now.chosen ≡ Some name
  pub missing : fresh ≡ true → before.held name ≡ None
  pub stands : fresh ≡ false → IsSome (before.held name)
  pub others : (other : List ℕ) → other ≢ name → now.held other ≡ before.held other
  pub kept : fresh ≡ false → now.held ≡ before.held

-- a name was refused: none is chosen, all other names stay, and so does whatever stood
pub record IsRefused (before now : Names) (name : List ℕ) : Type 0 where
  pub chosen : now.chosen ≡ None
  pub others : (other : List ℕ) → other ≢ name → now.held other ≡ before.held other
  pub stood : (other : List ℕ) → IsSome (before.held other) → now.held other ≡ before.held other

abbrev pub IsAnswered : (before now : Names) → (name : List ℕ) → (fresh : Bool) → DiskAnswer → Type 0
IsAnswered before now name fresh Done = IsChosen before now name fresh
IsAnswered before now name fresh Failed = IsRefused before now name

-- the same of a disk that may tell its names, and goes on to tell them
abbrev pub StaysBeside : Option Names → Option Names → Type 0
StaysBeside None now = now ≡ None
StaysBeside (Some before) now = IsSomeAnd now (KeepsOthers before)

abbrev pub Chooses : Option Names → Option Names → (name : List ℕ) → (fresh : Bool) → DiskAnswer → Type 0
Chooses None now name fresh answer = now ≡ None
Chooses (Some before) now name fresh answer = IsSomeAnd now (λ now. IsAnswered before now name fresh answer)

-- no name is chosen
abbrev pub IsUnchosen : Option Names → Type 0
IsUnchosen told = IsSomeAnd told (λ names. names.chosen ≡ None)

-- the file is what stands under the chosen name, and is told
abbrev pub IsOfChosen : Option Names → Option (List ℕ) → Type 0
IsOfChosen told file = IfSome told (λ names. IfSome names.chosen (λ name. (names.held name ≡ file) × IsSome file))

-- what stood under any name stands there still
abbrev pub StoodStays : Option Names → Option Names → Type 0
StoodStays told now = IfSome told (λ before. IsSomeAnd now (λ now. (name : List ℕ) → IsSome (before.held name)
    → now.held name ≡ before.held name))
