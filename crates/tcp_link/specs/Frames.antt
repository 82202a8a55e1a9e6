-- Frames, and how many of them a connection may bring.
use Rattle.std.specs.Prelude.{◌≡◌, ℕ, ◌+◌, ◌-◌, ◌≤◌, ◌<◌, List, ◌++◌, length, take, Option}
use Rattle.std.specs.Int.{w32, from_be_bytes}

-- a frame of so many bytes may come where so many are left: it is no longer than any frame, and counts for 4,096 more
abbrev pub Allows : (left size : ℕ) → Type 0
Allows left size = (size ≤ 16777216) × (4096 + size ≤ left)

-- what is left behind such a frame
abbrev pub after_frame : (left size : ℕ) → ℕ
after_frame left size = left - (4096 + size)
