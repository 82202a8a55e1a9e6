-- Reading over values without keeping them.
use Rattle.std.specs.Prelude.{◌≡◌, Result, Ok, Err}
use Rattle.wire_core.specs.Reading.{Reading}

-- what a reader that keeps nothing returned is what reading gives: after it the reader stands where the
-- reading of some value ends; or the fault
abbrev pub Passes : {X Y E : Type 0} → Result X E → Reading → Result (Y × Reading) E → Type 0
Passes {X} {Y} (Ok x) after read = (value : Y) × (read ≡ Ok (value, after))
Passes (Err e) after read = read ≡ Err e
