-- The forms of lines: what a line says, without the line feed that ends it.
use Rattle.std.specs.Prelude.{ℕ, ◌+◌, ◌-◌, ◌*◌, ◌/◌, ◌%◌, ◌^◌, nat_le, nat_lt, ◌&&◌, ◌||◌, not, Bool, List, [], ◌∷◌, ◌++◌, length, slice_index, bytes_eq, codes, if◌then◌else◌, Option, Some, None, option_map, option_and_then}
use Rattle.std.specs.Bool.{then_some}
use Rattle.std.specs.List.{list_any}
use Rattle.std.specs.Result.{result_ok}
use Rattle.std.specs.Str.{all_ascii_digits}
use Rattle.std.specs.Str.Parse.{digits_value}
use Rattle.hex.specs.Hex.{decode_of, decode_sized}
use Rattle.phase_message.specs.Shape.{Shape}
use Rattle.phase_message.specs.Stages.{is_slot}
use Rattle.phase_message.specs.declared.stage.Slot.{Slot}
use Rattle.round_script.specs.declared.script.FaultLine.{FaultLine}
use Rattle.round_script.specs.declared.script.TheConstants.{MESSAGE_LIMIT}
use Rattle.round_script.specs.Fault.{fault_of_name}
use Rattle.round_script.specs.Lines.{behind}

-- the number of one digit between two others
abbrev pub digit_of : (least most : ℕ) → List ℕ → Option ℕ
digit_of least most (digit ∷ []) = if nat_le (48 + least) digit && nat_le digit (48 + most) then Some (digit - 48) else None
digit_of least most digits = None

-- the number that decimal digits spell of which the first is not 0: from 1 to 2^64 - 1
unfoldable pub number_of : List ℕ → Option ℕ
number_of digits =
    if nat_lt 48 (slice_index digits 0) && all_ascii_digits digits && nat_lt (digits_value 10 digits) (2 ^ 64)
    then Some (digits_value 10 digits) else None

-- a number below 100 in decimal digits
abbrev pub short_decimal : ℕ → List ℕ
short_decimal n = if nat_lt n 10 then (48 + n) ∷ [] else ((48 + n / 10) ∷ (48 + n % 10) ∷ [])

-- a letter that a digit of a script is not: those of hexadecimal digits are lower-case
abbrev pub is_upper_case : ℕ → Bool
is_upper_case byte = nat_le 65 byte && nat_le byte 90

-- the 32 bytes of 64 lower-case hexadecimal digits
unfoldable pub seed_of : List ℕ → Option (List ℕ)
seed_of digits = if list_any is_upper_case digits then None else result_ok (decode_sized digits 32)

-- whether so many digits can be those of a message: at least one byte, and at most the limit
abbrev pub is_message_length : ℕ → Bool
is_message_length digits = nat_lt 0 digits && nat_le digits (2 * MESSAGE_LIMIT)

-- the bytes of a message: `-` for the empty one, else lower-case hexadecimal digits
unfoldable pub message_of : List ℕ → Option (List ℕ)
message_of digits =
    if bytes_eq digits (codes "-") then Some []
    else if not (is_message_length (length digits)) || list_any is_upper_case digits then None
    else result_ok (decode_of digits)

-- what follows a word and a member's number
abbrev pub behind_member : List ℕ → ℕ → List ℕ → Option (List ℕ)
behind_member word member line = option_and_then (behind ((48 + member) ∷ codes " ")) (behind word line)

-- the faulty member of this number, where the line names it with a fault
unfoldable pub fault_line_of : ℕ → List ℕ → Option FaultLine
fault_line_of member line =
    option_map (λ fault. record { member = member; fault = fault })
    (option_and_then fault_of_name (behind_member (codes "fault ") member line))

-- the line that names a slot whose posts do not arrive
unfoldable pub drop_line : ℕ → ℕ → List ℕ
drop_line stage sender = codes "drop " ++ (short_decimal stage ++ (32 ∷ (48 + sender) ∷ []))

-- Slots rank by stage, and in a stage by sender: eight ranks a stage.
abbrev pub rank_of : Slot → ℕ
rank_of slot = 8 * slot.stage + (slot.sender - 1)

-- the stage and the sender of a rank
abbrev pub slot_of_rank : ℕ → Slot
slot_of_rank rank = record { stage = rank / 8; sender = rank % 8 + 1 }

-- the slot of a rank, where the round has it and the line names it
unfoldable pub slot_dropped : Shape → ℕ → List ℕ → Option Slot
slot_dropped shape rank line =
    then_some (is_slot shape (slot_of_rank rank).stage (slot_of_rank rank).sender
    && bytes_eq line (drop_line (slot_of_rank rank).stage (slot_of_rank rank).sender)) (slot_of_rank rank)

-- how often each post arrives, by the line that says so
unfoldable pub repeat_of : List ℕ → Option ℕ
repeat_of line = option_and_then (digit_of 1 9) (behind (codes "repeat ") line)
