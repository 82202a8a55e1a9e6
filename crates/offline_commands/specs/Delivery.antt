-- What is printed of an answer, and the status that the program then ends with.
use Rattle.std.specs.Prelude.{◌≡◌, ◌≢◌, ◌⊎◌, ℕ, List, ◌++◌, Option, Result, Ok, Err, Vec, vec_items}
use Rattle.std.specs.declared.alloc.Global.{Global}
use Rattle.outside.specs.Changes.{Change, Failed}
use Rattle.offline_commands.specs.declared.status.Status.{Status}
use Rattle.offline_commands.specs.declared.status.Status.TheVariants.{Done, WriteFault, OutOfMemory}
use Rattle.offline_commands.specs.Outside.{Gains, IsFirstOf}
use Rattle.offline_commands.specs.Status.{status_line}

-- the status of an answer that is printed whole
abbrev pub status_of : Result (List ℕ) Status → Status
status_of (Ok output) = Done
status_of (Err status) = status

-- what is printed for an answer: the output, or the line of its status
abbrev pub text_of : Result (List ℕ) Status → List ℕ
text_of (Ok output) = output
text_of (Err status) = status_line status

-- what the sink gained where memory was wanting: some first bytes of the text, and some of the line that says so
abbrev pub IsBrokenOff : List ℕ → List ℕ → Type 0
IsBrokenOff text gained =
    (front back : List ℕ) × IsFirstOf front text × IsFirstOf back (status_line OutOfMemory) × (gained ≡ front ++ back)

-- a status, and what the sink gained of a text under an expected status: the whole text; or its first bytes, where
-- the sink failed; or where memory was wanting
abbrev pub Prints : Type 0 → Status → List ℕ → List ℕ → Status → Type 0
Prints fault expected text gained status =
    ((status ≡ expected) × (gained ≡ text))
    ⊎ ((status ≡ WriteFault) × fault × (expected ≢ OutOfMemory) × IsFirstOf gained text)
    ⊎ ((status ≡ OutOfMemory) × IsBrokenOff text gained)

-- a text was printed into a sink that held the first bytes before and holds the second now
abbrev pub DeliversText : Type 0 → Option (List ℕ) → Option (List ℕ) → Status → List ℕ → Status → Type 0
DeliversText fault old new expected text status =
    (gained : List ℕ) × Gains old new gained × Prints fault expected text gained status

-- an answer was printed into a sink, with this status
abbrev pub Delivers : Change (Option (List ℕ)) → Result (List ℕ) Status → Status → Type 0
Delivers sink answer status = DeliversText (Failed sink) sink.before sink.now (status_of answer) (text_of answer) status

-- an answer with its bytes
abbrev pub answer_bytes : Result (Vec ℕ Global) Status → Result (List ℕ) Status
answer_bytes (Ok output) = Ok (vec_items output)
answer_bytes (Err status) = Err status
