-- Answers, of which some may be missing, and results with refusals. A refusal is told as a list of what may be wrong,
-- in the order in which it is tested, and of these the first that is. A value or a refusal of an Option is std's
-- `ok_or`.
use Rattle.std.specs.Prelude.{◌≡◌, ℕ, List, [], ◌∷◌, map, Bool, Option, Some, None, Result, Ok, Err, if◌then◌else◌}
use Rattle.std.specs.List.{range_with_len}

-- ---- of a list of answers the first

-- the first answer of a list in which some may be missing
abbrev pub first_some : {A : Type 0} → List (Option A) → Option A
first_some [] = None
first_some (Some x ∷ others) = Some x
first_some (None ∷ others) = first_some others

-- the first answer that f gives to the numbers 0, 1, .. below n
abbrev pub first_below : {A : Type 0} → ℕ → (ℕ → Option A) → Option A
first_below n f = first_some (map f (range_with_len 0 n))

-- a fault, unless what ought to hold does
abbrev pub fault_unless : {A : Type 0} → Bool → A → Option A
fault_unless holds fault = if holds then None else Some fault

-- ---- results

-- a value, unless there is a fault
abbrev pub value_unless : {A F : Type 0} → Option F → A → Result A F
value_unless None value = Ok value
value_unless (Some fault) value = Err fault

-- x where the test passes, else the fault
abbrev pub unless : {A E : Type 0} → Bool → E → A → Result A E
unless bad e x = if bad then Err e else Ok x

-- first this result, then that of what it gave; the first fault ends both
infixl 10 ◌>>=◌
abbrev pub ◌>>=◌ : {A B E : Type 0} → Result A E → (A → Result B E) → Result B E
(Ok x) >>= f = f x
(Err e) >>= f = Err e

-- the same result, with its fault told in other words
abbrev pub fault_as : {A E F : Type 0} → (E → F) → Result A E → Result A F
fault_as f (Ok x) = Ok x
fault_as f (Err e) = Err (f e)

-- ---- what a call answered

-- Of a call that may run out of memory: a fault that it told is that of the expected result, and None is out of
-- memory, of which nothing is said.
abbrev pub IsFault : {A F : Type 0} → Option F → Result A F → Type 0
IsFault None expected = Unit {0}
IsFault (Some f) expected = expected ≡ Err f

-- What a call returned is the expected result: the value, seen by view, or the fault. `fault` says which of the call's
-- errors is which fault.
abbrev pub Gives : {X Y E F : Type 0} → (E → Option F) → (X → Y) → Result X E → Result Y F → Type 0
Gives fault view (Ok x) expected = expected ≡ Ok (view x)
Gives fault view (Err e) expected = IsFault (fault e) expected
