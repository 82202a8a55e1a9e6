-- The lines of a text, of which each is ended by a line feed, and forms of lines.
use Rattle.std.specs.Prelude.{◌≡◌, ℕ, zero, suc, ◌+◌, ◌==◌, nat_le, ◌&&◌, List, [], ◌∷◌, ◌++◌, length, take, drop, bytes_eq, if◌then◌else◌, Option, Some, None, option_map, option_and_then, Result, Ok, Err}
use Rattle.std.specs.Option.{ok_or}
use Rattle.wire_core.specs.Reading.{Reading, reading_at, IsFault}
use Rattle.round_script.specs.declared.refusal.ScriptRefusal.{ScriptRefusal}
use Rattle.round_script.specs.declared.refusal.ScriptRefusal.TheVariants.{BadLine, Memory}

-- the number of the line that a refusal tells, where it is not for want of memory
abbrev pub bad_line : ScriptRefusal → Option ℕ
bad_line (BadLine line) = Some line
bad_line Memory = None

-- a line with the line feed that ends it
abbrev pub ended : List ℕ → List ℕ
ended line = line ++ 10 ∷ []

-- what stands before the first line feed of a text, where there is one
abbrev pub line_of : List ℕ → Option (List ℕ)
line_of [] = None
line_of (byte ∷ bytes) = if byte == 10 then Some [] else option_map (λ line. byte ∷ line) (line_of bytes)

-- A reading of lines has the number of the next line for its place. Behind a line it stands at the next.
abbrev pub behind_line : List ℕ → Reading → Reading
behind_line line before = reading_at (before.place + 1) (drop (length line + 1) before.rest)

-- the next line, or its number where no line feed is to come
unfoldable pub line_at : Reading → Result (List ℕ × Reading) ℕ
line_at before = ok_or (option_map (λ line. (line, behind_line line before)) (line_of before.rest)) before.place

-- what follows a front in a line that begins with it
unfoldable pub behind : List ℕ → List ℕ → Option (List ℕ)
behind front line =
    if nat_le (length front) (length line) && bytes_eq (take (length front) line) front
    then Some (drop (length front) line) else None

-- ---- lines that may be missing

-- the value that is read, or none, and the reading stays where it was
abbrev pub value_or_none : {A : Type 0} → Reading → Option (A × Reading) → Option A × Reading
value_or_none before (Some x) = (Some x.0, x.1)
value_or_none before None = (None, before)

-- the value of the next line by a form, and where the reading stands behind the line; where the line has no value it
-- stays to be read
unfoldable pub optional : {A : Type 0} → (List ℕ → Option A) → Reading → Option A × Reading
optional form before =
    value_or_none before (option_and_then (λ line. option_map (λ x. (x, behind_line line before)) (form line)) (line_of before.rest))

-- the value as a list, which is empty where it is missing
abbrev pub listed : {A : Type 0} → Option A → List A
listed (Some x) = x ∷ []
listed None = []

-- the values of lines that may be missing, one by each of `count` forms, from form number `first` on
unfoldable pub optionals : {A : Type 0} → (ℕ → List ℕ → Option A) → (first count : ℕ) → Reading → List A × Reading
optionals form first zero before = ([], before)
optionals form first (suc count) before =
    let one = optional (form first) before in
    let others = optionals form (first + 1) count one.1 in
    (listed one.0 ++ others.0, others.1)

-- these values before those that are read
abbrev pub preceded : {A : Type 0} → List A → List A × Reading → List A × Reading
preceded front read = (front ++ read.0, read.1)

-- what a reader of a line returned that keeps nothing of it: it stands behind the line, or the line is bad
abbrev pub ReadsAs : {X E : Type 0} → (E → Option ℕ) → Result X E → Reading → Result Reading ℕ → Type 0
ReadsAs fault (Ok x) after read = read ≡ Ok after
ReadsAs fault (Err e) after read = IsFault (fault e) read
