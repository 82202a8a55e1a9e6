-- A file with a place, as contracts see it, and what a call does to it.
use Rattle.std.specs.Prelude.{◌≡◌, ◌⊎◌, ℕ, ◌+◌, ◌-◌, ◌≤◌, List, [], ◌∷◌, ◌++◌, length, take, replicate, Option, IfSome, IsSome, option_and_then, option_map, Result, Ok, Err}
use Rattle.outside.specs.Faults.{counted}
use Rattle.crash_disk.specs.Disk.{IsFilled, overwritten}

-- what a file tells: its bytes, the place of the next read or write, and how often it was brought onto the disk
pub record FileState : Type 0 where
  pub bytes : List ℕ
  pub place : ℕ
  pub syncs : ℕ

-- what an option of a file tells
abbrev pub told_in : {F : Type 0} → (told : F → Option FileState) → Option F → Option FileState
told_in told file = option_and_then told file

-- the file at another place
abbrev pub moved_to : ℕ → FileState → FileState
moved_to at file = record { bytes = file.bytes; place = at; syncs = file.syncs }

-- these bytes, and zeros up to a place behind their end
abbrev pub filled_up : List ℕ → ℕ → List ℕ
filled_up bytes at = bytes ++ replicate (at - length bytes) 0

-- these bytes with a piece written from `at` on; a piece of no bytes changes nothing
unfoldable pub written_over : List ℕ → ℕ → List ℕ → List ℕ
written_over bytes at [] = bytes
written_over bytes at (byte ∷ piece) = overwritten (filled_up bytes at) at (byte ∷ piece)

-- the file with a piece written at its place, and the place behind it
abbrev pub with_written : List ℕ → FileState → FileState
with_written piece file = record {
  bytes = written_over file.bytes file.place piece;
  place = file.place + length piece;
  syncs = file.syncs;
}

-- the file brought onto the disk once more
abbrev pub synced : FileState → FileState
synced file = record { bytes = file.bytes; place = file.place; syncs = counted file.syncs }

-- so many bytes from the place on were read into the first of a buffer, and none only at the end or into no room
pub record IsReadFrom (file : FileState) (taken : ℕ) (before now : List ℕ) : Type 0 where
  pub filled : IsFilled file.bytes file.place taken before now
  pub ended : taken ≡ 0 → (length before ≡ 0) ⊎ (length file.bytes ≤ file.place)

-- a read took bytes at the place and went behind them, or failed and changed nothing, the buffer neither
abbrev pub ReadsSome : {E : Type 0} → (old new : Option FileState) → (before now : List ℕ) → Result ℕ E → Type 0
ReadsSome old new before now (Ok taken) =
    (new ≡ option_map (λ file. moved_to (file.place + taken) file) old) × IfSome old (λ file. IsReadFrom file taken before now)
ReadsSome old new before now (Err _) = (new ≡ old) × (IsSome old → now ≡ before)

-- a write wrote the first of these bytes, so many, or failed and changed nothing
abbrev pub WritesSome : {E : Type 0} → (old new : Option FileState) → List ℕ → Result ℕ E → Type 0
WritesSome old new bytes (Ok count) = new ≡ option_map (with_written (take count bytes)) old
WritesSome old new bytes (Err _) = new ≡ old

-- the file with all of these bytes written from `at` on
abbrev pub written_at : ℕ → List ℕ → Option FileState → Option FileState
written_at at bytes told = option_map (λ file. with_written bytes (moved_to at file)) told

-- all but the place stays
abbrev pub KeepsContent : Option FileState → Option FileState → Type 0
KeepsContent old new = option_map (moved_to 0) new ≡ option_map (moved_to 0) old

-- some first bytes were written from `at` on, and nothing else but the place changed
abbrev pub WritesFirstOf : (old new : Option FileState) → (at : ℕ) → List ℕ → Type 0
WritesFirstOf old new at bytes = (count : ℕ) × KeepsContent (written_at at (take count bytes) old) new

-- some first bytes were written at the place, and nothing else changed
abbrev pub WritesPart : (old new : Option FileState) → List ℕ → Type 0
WritesPart old new bytes = (count : ℕ) × (new ≡ option_map (with_written (take count bytes)) old)
