-- One file as contracts see it: its bytes, what a crash may leave of it, and what a call does to both. What is said of
-- the bytes is said of disks that tell them; a disk that tells nothing goes on to tell nothing.
use Rattle.std.specs.Prelude.{◌≡◌, ◌⊎◌, ℕ, ◌+◌, ◌-◌, ◌≤◌, max, List, ◌++◌, length, take, drop, Option, Some, None, IfSome, IsSomeAnd}
use Rattle.crash_disk.specs.declared.disk.DiskRead.{DiskRead}
use Rattle.crash_disk.specs.declared.disk.DiskRead.TheVariants.{Read, Failed}

-- the file with these bytes from `at` on, in the place of those that stood there; all others stay
unfoldable pub overwritten : List ℕ → ℕ → List ℕ → List ℕ
overwritten file at bytes = take at file ++ bytes ++ drop (at + length bytes) file

-- any bytes in a range of n, of which those past the old end may be missing; all others stay
pub record IsTorn (file : List ℕ) (at n : ℕ) (now : List ℕ) : Type 0 where
  pub before : take at now ≡ take at file
  pub after : drop (at + n) now ≡ drop (at + n) file
  pub no_shorter : length file ≤ length now
  pub no_longer : length now ≤ max (length file) (at + n)

-- a buffer whose first bytes are now those of the file from `at` on, so many as were taken
pub record IsFilled (file : List ℕ) (at taken : ℕ) (before now : List ℕ) : Type 0 where
  pub within : taken ≤ length file - at
  pub bytes : now ≡ take taken (drop at file) ++ drop taken before

-- if a read gave bytes, their number has P
abbrev pub IfRead : DiskRead → (ℕ → Type 0) → Type 0
IfRead (Read taken) P = P taken
IfRead Failed P = Unit {0}

-- bytes were written from `at` on, which is no place past the end
abbrev pub Writes : Option (List ℕ) → Option (List ℕ) → ℕ → List ℕ → Type 0
Writes None now at bytes = now ≡ None
Writes (Some file) now at bytes = (at ≤ length file) × (now ≡ Some (overwritten file at bytes))

-- n bytes from `at` on were written, or some of them, or none
abbrev pub Tears : Option (List ℕ) → Option (List ℕ) → ℕ → ℕ → Type 0
Tears None now at n = now ≡ None
Tears (Some file) now at n = IsSomeAnd now (IsTorn file at n)

-- ---- what a crash leaves: an image of the file

-- each image that there is has P
abbrev pub Every : (images : List ℕ → Type 0) → (List ℕ → Type 0) → Type 0
Every images P = (image : List ℕ) → images image → P image

-- a crash leaves this file and nothing else
abbrev pub Only : List ℕ → (List ℕ → Type 0) → Type 0
Only file images = Every images (λ image. image ≡ file)

-- one of these images, with any bytes in a range of n
abbrev pub IsTornOf : (images : List ℕ → Type 0) (at n : ℕ) → List ℕ → Type 0
IsTornOf images at n image = (earlier : List ℕ) × images earlier × IsTorn earlier at n image

-- each image is an earlier one, with any bytes in a range of n
abbrev pub ImagesTear : (old new : List ℕ → Type 0) (at n : ℕ) → Type 0
ImagesTear old new at n = Every new (IsTornOf old at n)

-- Time goes on: a crash since a moment might have left what it might have left before, or what it may leave now.
pub record Elapses (before now : ℕ) (past since : ℕ → List ℕ → Type 0) (images : List ℕ → Type 0) : Type 0 where
  pub later : before ≤ now
  pub nothing_else : (moment : ℕ) (image : List ℕ) → moment ≤ before → since moment image → past moment image ⊎ images image
  pub keeps : (moment : ℕ) (image : List ℕ) → moment ≤ before → past moment image → since moment image

-- a crash at any moment since the disk was `old` leaves an image that has P
pub record LeavesOnly {D : Type 0} (moment : D → ℕ) (left_since : D → ℕ → List ℕ → Type 0) (old new : D) (P : List ℕ → Type 0) : Type 0
  where
    pub later : moment old ≤ moment new
    pub each : Every (left_since new (moment old)) P
    -- for what began earlier
    pub before : (start : ℕ) (image : List ℕ) → start ≤ moment old → left_since new start image → left_since old start image ⊎ P image

-- the same of a disk that told this file
abbrev pub LeavesOf : {D : Type 0} (moment : D → ℕ) (left_since : D → ℕ → List ℕ → Type 0) (told : Option (List ℕ)) (old new : D)
    → (List ℕ → List ℕ → Type 0) → Type 0
LeavesOf moment left_since told old new P = IfSome told (λ file. LeavesOnly moment left_since old new (P file))
