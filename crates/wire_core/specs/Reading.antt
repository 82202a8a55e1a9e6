-- Reading from left to right: functions from where a reading stands to the value that is read and
-- where it stands then, or to the first fault. A decoder's clause says that it gives such a function.
use Rattle.std.specs.Prelude.{◌≡◌, ℕ, zero, suc, ◌+◌, List, [], ◌∷◌, ◌++◌, length, take, drop, Option, Result, Ok, Err, nat_lt, if◌then◌else◌}
use Rattle.std.specs.Int.{Width, byte_len, from_be_bytes}
use Rattle.wire_core.specs.declared.cursor.Short.{Short}
pub use Rattle.wire_core.specs.Place.{Reading}
pub use Rattle.wire_core.specs.Answers.{◌>>=◌, fault_as, unless, IsFault, Gives}

-- a reading that stands at this place, with these bytes to come
abbrev pub reading_at : ℕ → List ℕ → Reading
reading_at place rest = record { place = place; rest = rest }

-- a reading of these bytes, at the first
abbrev pub reading_of : List ℕ → Reading
reading_of bytes = reading_at 0 bytes

-- the reading before, with n bytes more read
abbrev pub advanced : ℕ → Reading → Reading
advanced n before = reading_at (before.place + n) (drop n before.rest)

-- the next n bytes. Short where fewer are left, with how many are
abbrev pub bytes_at : ℕ → Reading → Result (List ℕ × Reading) Short
bytes_at n before =
    if nat_lt (length before.rest) n
    then Err (record { at = before.place; need = n; have = length before.rest })
    else Ok (take n before.rest, advanced n before)

-- the number of the next bytes, high byte first, as many bytes as the width has
abbrev pub number_at : Width → Reading → Result (ℕ × Reading) Short
number_at w before = do
  front ← bytes_at (byte_len w) before
  Ok (from_be_bytes w front.0, front.1)

-- n values, one after the other
unfoldable pub repeated : {A E : Type 0} → ℕ → (Reading → Result (A × Reading) E) → Reading → Result (List A × Reading) E
repeated zero read before = Ok ([], before)
repeated (suc n) read before = do
  first ← read before
  others ← repeated n read first.1
  Ok (first.0 ∷ others.0, others.1)

-- these values, and then those that are read
abbrev pub with_front : {A E : Type 0} → List A → Result (List A × Reading) E → Result (List A × Reading) E
with_front front read = read >>= λ x. Ok (front ++ x.0, x.1)

-- What a reader returned is what reading gives: the value, seen by view, and after it the reader's
-- place; or the fault.
abbrev pub Reads : {X Y E : Type 0} → (X → Y) → Result X E → Reading → Result (Y × Reading) E → Type 0
Reads view (Ok x) after read = read ≡ Ok (view x, after)
Reads view (Err e) after read = read ≡ Err e

-- The same for a reader that may run out of memory: fault tells which of its errors is which fault.
abbrev pub ReadsOr : {X Y E F : Type 0} → (E → Option F) → (X → Y) → Result X E → Reading → Result (Y × Reading) F → Type 0
ReadsOr fault view (Ok x) after read = read ≡ Ok (view x, after)
ReadsOr fault view (Err e) after read = IsFault (fault e) read

-- from before to after exactly this text was read
pub record Takes (text : List ℕ) (before after : Reading) : Type 0 where
  pub text_is : before.rest ≡ text ++ after.rest
  pub place_is : after.place ≡ before.place + length text
