-- Reading a script line by line: what it says, or the number of its first bad line.
use Rattle.std.specs.Prelude.{ℕ, ◌+◌, ◌-◌, ◌*◌, not, ◌==◌, bytes_eq, codes, List, length, Option, option_map, option_and_then, Result, Ok}
use Rattle.std.specs.Option.{ok_or}
use Rattle.phase_message.specs.Shape.{Shape}
use Rattle.phase_message.specs.declared.stage.Slot.{Slot}
use Rattle.wire_core.specs.Reading.{Reading, reading_at, repeated, ◌>>=◌, unless}
use Rattle.round_script.specs.declared.script.FaultLine.{FaultLine}
use Rattle.round_script.specs.declared.script.Script.{Script}
use Rattle.round_script.specs.Forms.{digit_of, number_of, seed_of, message_of, behind_member, fault_line_of, slot_dropped, repeat_of}
use Rattle.round_script.specs.Lines.{line_at, behind, optional, optionals}

-- the first line of a script of this version
abbrev pub first_line : List ℕ
first_line = codes "dissent-script 1"

-- the value of the next line by a form, or its number where the line is missing or has none
unfoldable pub value_at : {A : Type 0} → (List ℕ → Option A) → Reading → Result (A × Reading) ℕ
value_at form before = do
  line ← line_at before
  value ← ok_or (form line.0) before.place
  Ok (value, line.1)

-- where a reading stands behind the first line
unfoldable pub version_at : Reading → Result Reading ℕ
version_at before = do
  line ← line_at before
  unless (not (bytes_eq line.0 first_line)) before.place line.1

-- the shape of a round of as many members as a line says: 2 to 8
abbrev pub shape_in : List ℕ → Option Shape
shape_in line =
    option_map (λ members. record { version = 1; members = members }) (option_and_then (digit_of 2 8) (behind (codes "members ") line))

-- the round's number in a line
abbrev pub round_of : List ℕ → Option ℕ
round_of line = option_and_then number_of (behind (codes "round ") line)

-- the seed in a line
abbrev pub seed_in : List ℕ → Option (List ℕ)
seed_in line = option_and_then seed_of (behind (codes "seed ") line)

-- the message of a member in a line
abbrev pub message_in : ℕ → List ℕ → Option (List ℕ)
message_in member line = option_and_then message_of (behind_member (codes "message ") member line)

-- the next line as a message: member I's stands in line I + 4
abbrev pub message_at : Reading → Result (List ℕ × Reading) ℕ
message_at before = value_at (message_in (before.place - 4)) before

-- what the lines say that each script has: the shape of the round, its number, the seed and the messages
pub record Opening : Type 0 where
  pub shape : Shape
  pub round : ℕ
  pub seed : List ℕ
  pub messages : List (List ℕ)

-- the lines that each script has
unfoldable pub opening_at : Reading → Result (Opening × Reading) ℕ
opening_at before = do
  begun ← version_at before
  shape ← value_at shape_in begun
  round ← value_at round_of shape.1
  seed ← value_at seed_in round.1
  messages ← repeated shape.0.members message_at seed.1
  Ok (record { shape = shape.0; round = round.0; seed = seed.0; messages = messages.0 }, messages.1)

-- the lines of faulty members, at most one for each member
abbrev pub faults_at : ℕ → Reading → List FaultLine × Reading
faults_at members before = optionals fault_line_of 1 members before

-- the lines of slots whose posts do not arrive, at most one for each slot of the round's 2N + 10 stages
abbrev pub drops_at : Shape → Reading → List Slot × Reading
drops_at shape before = optionals (slot_dropped shape) 0 (8 * (2 * shape.members + 10)) before

-- the script whose further lines are read behind its opening, or the number of the first line behind these
unfoldable pub further_of : Opening → Reading → Result Script ℕ
further_of opening before =
    let faults = faults_at opening.shape.members before in
    let drops = drops_at opening.shape faults.1 in
    let repeat = optional repeat_of drops.1 in
    unless (not (length repeat.1.rest == 0)) repeat.1.place (record {
      version = 1;
      round = opening.round;
      seed = opening.seed;
      messages = opening.messages;
      faults = faults.0;
      drops = drops.0;
      repeat = repeat.0;
    })

-- the script of bytes, or the number of the first bad line
unfoldable pub script_read : List ℕ → Result Script ℕ
script_read bytes = opening_at (reading_at 1 bytes) >>= λ opening. further_of opening.0 opening.1
