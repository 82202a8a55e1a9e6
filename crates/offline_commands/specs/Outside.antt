-- The outside of the program as its contracts see it: files by name, a sink of bytes, and counts of faults.
use Rattle.std.specs.Prelude.{◌≡◌, ◌≢◌, ℕ, List, ◌++◌, ⊤, Option, Some, None, IsSome, IfSome, IsSomeAnd}
use Rattle.std.specs.List.{AllByRecursion}
use Rattle.crash_disk.specs.Names.{Names}
use Rattle.offline_commands.specs.declared.interfaces.FileRead.{FileRead}
use Rattle.offline_commands.specs.declared.interfaces.FileRead.TheVariants.{Bytes, TooLong, Failed, OutOfMemory}

-- what files hold: the bytes of each name, or nothing where the name is missing
abbrev pub Held : Type 0
Held = List ℕ → Option (List ℕ)

-- what a disk tells: its file, and its names
pub record DiskTold : Type 0 where
  pub file : Option (List ℕ)
  pub names : Option Names

abbrev pub telling : {D : Type 0} → (file : D → Option (List ℕ)) → (names : D → Option Names) → D → DiskTold
telling file names disk = record { file = file disk; names = names disk }

-- the files tell what they hold, and this name is missing
abbrev pub IsMissing : Option Held → List ℕ → Type 0
IsMissing told name = IsSomeAnd told (λ held. held name ≡ None)

-- what stood at a name when it was read: where the files tell, just what they hold; where they don't, some bytes
abbrev pub Shows : Option Held → List ℕ → Option (List ℕ) → Type 0
Shows None name content = IsSome content
Shows (Some held) name content = held name ≡ content

-- if a read gave bytes, they have P
abbrev pub IfBytes : FileRead → (List ℕ → Type 0) → Type 0
IfBytes (Bytes bytes) P = P bytes
IfBytes TooLong P = ⊤
IfBytes Failed P = ⊤
IfBytes OutOfMemory P = ⊤

-- after a write the name holds these bytes
abbrev pub HoldsNow : Option Held → Option Held → List ℕ → List ℕ → Type 0
HoldsNow old new name bytes = IfSome old (λ _. IsSomeAnd new (λ held. held name ≡ Some bytes))

-- whatever a write did to one name, all other names stay
abbrev pub OthersStay : Option Held → Option Held → List ℕ → Type 0
OthersStay old new name =
    IfSome old (λ before. IsSomeAnd new (λ now. (other : List ℕ) → other ≢ name → now other ≡ before other))

-- these bytes were written under a name, and all other names stay
abbrev pub IsWrite : Option Held → Option Held → List ℕ → List ℕ → Type 0
IsWrite old new name bytes = HoldsNow old new name bytes × OthersStay old new name

-- a name is none of these
abbrev pub IsNoneOf : List (List ℕ) → List ℕ → Type 0
IsNoneOf names other = AllByRecursion (λ name. other ≢ name) names

-- whatever writes did to these names, all others stay
abbrev pub AllOthersStay : Option Held → Option Held → List (List ℕ) → Type 0
AllOthersStay old new names =
    IfSome old (λ before. IsSomeAnd new (λ now. (other : List ℕ) → IsNoneOf names other → now other ≡ before other))

-- these bytes went into the sink, at its end
abbrev pub Gains : Option (List ℕ) → Option (List ℕ) → List ℕ → Type 0
Gains old new gained = IfSome old (λ before. new ≡ Some (before ++ gained))

-- these bytes are the first of a text
abbrev pub IsFirstOf : List ℕ → List ℕ → Type 0
IsFirstOf front text = (rest : List ℕ) × (text ≡ front ++ rest)

-- some first bytes of a text went into the sink
abbrev pub GainsFirstOf : Option (List ℕ) → Option (List ℕ) → List ℕ → Type 0
GainsFirstOf old new text = (front : List ℕ) × IsFirstOf front text × Gains old new front
