-- Counts of faults.
use Rattle.std.specs.Prelude.{ℕ, ◌+◌, ◌-◌, ◌^◌, ◌≤◌, min}

-- one more; a count stays at the end of its 64 bits
abbrev pub counted : ℕ → ℕ
counted count = min (count + 1) (2 ^ 64 - 1)

-- a count of faults rose, or stands at the end of its 64 bits
abbrev pub Rose : ℕ → ℕ → Type 0
Rose before now = counted before ≤ now
