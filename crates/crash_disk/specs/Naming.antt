-- The name of the one file of a disk in memory.
use Rattle.std.specs.Prelude.{ℕ, nat_le, ◌&&◌, if◌then◌else◌, Bool, true, false, not, List, [], length, Some, None, bytes_eq}
use Rattle.crash_disk.specs.declared.naming.Naming.{Naming}
use Rattle.crash_disk.specs.Names.{Names}

-- there is no file yet
abbrev pub no_file : Naming
no_file = record { name = []; stands = false; chosen = false }

-- a file stands under this name, and is chosen
abbrev pub chosen_as : List ℕ → Naming
chosen_as name = record { name = name; stands = true; chosen = true }

-- a file stands under this name
abbrev pub is_named : Naming → List ℕ → Bool
is_named naming name = naming.stands && bytes_eq naming.name name

-- the file is chosen
abbrev pub is_chosen : Naming → Bool
is_chosen naming = naming.stands && naming.chosen

-- this name may be chosen
abbrev pub allows : Naming → List ℕ → (fresh : Bool) → Bool
allows naming name fresh = if fresh then not naming.stands && nat_le (length name) 128 else is_named naming name

-- the names that a disk with this file tells
abbrev pub names_told : Naming → (file : List ℕ) → Names
names_told naming file = record {
  chosen = if is_chosen naming then Some naming.name else None;
  held = λ name. if is_named naming name then Some file else None;
}
