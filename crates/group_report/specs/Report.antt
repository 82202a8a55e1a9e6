-- What is printed of a round of a whole group, and the transcript that is kept of it.
use Rattle.std.specs.Prelude.{ℕ, ◌+◌, ◌-◌, ◌/◌, ◌%◌, ◌^◌, ◌==◌, ◌&&◌, List, [], ◌∷◌, ◌++◌, length, drop, Bool, true, false, not, Option, is_some, find, unwrap_or, option_and_then, count_by, codes, decimal, if◌then◌else◌}
use Rattle.std.specs.List.{flat_map, range_with_len, sum_by}
use Rattle.hex.specs.Hex.{encode_lower}
use Rattle.bulk_descriptor.specs.declared.slot_state.SlotState.{SlotState}
use Rattle.bulk_descriptor.specs.declared.slot_state.SlotState.TheVariants.{Empty, Bad, Mismatched, Message}
use Rattle.transcript_form.specs.Claim.{claim_name}
use Rattle.member_spec.specs.declared.state.State.{State}
use Rattle.member_spec.specs.declared.state.State.TheVariants.{Waiting, Done, Blamed, Stopped}
use Rattle.group_spec.specs.declared.ending.MemberEnd.{MemberEnd}

-- texts one after the other, and a line feed
abbrev pub line_of : List (List ℕ) → List ℕ
line_of [] = 10 ∷ []
line_of (text ∷ texts) = text ++ line_of texts

-- ---- members

-- whether the bit of a member is set: that of member i is bit i - 1
abbrev pub is_set : ℕ → ℕ → Bool
is_set bits member = bits / 2 ^ (member - 1) % 2 == 1

-- a comma and the digit of a member whose bit is set
unfoldable pub listed : ℕ → ℕ → List ℕ
listed bits member = if is_set bits member then 44 ∷ (48 + member) ∷ [] else []

-- those of the first members, rising
unfoldable pub listed_to : ℕ → ℕ → List ℕ
listed_to bits count = flat_map (listed bits) (range_with_len 1 count)

-- the digits of members 1 to 8 whose bits are set, rising, with commas between them
abbrev pub listed_members : ℕ → List ℕ
listed_members bits = drop 1 (listed_to bits 8)

-- how a round stands for a member, in words
abbrev pub state_words : State → List ℕ
state_words (Waiting stage missing) = codes "open stage " ++ decimal stage ++ codes " missing " ++ listed_members missing
state_words Done = codes "done"
state_words (Blamed accused claim) = codes "blames " ++ decimal accused ++ codes " " ++ claim_name claim
state_words Stopped = codes "stopped"

-- what is told of a member: of a faulty one no more than that
abbrev pub member_words : MemberEnd → List ℕ
member_words member = if member.faulty then codes "faulty" else state_words member.state

-- the line of a member
unfoldable pub member_line : MemberEnd → List ℕ
member_line member = line_of (codes "member " ∷ decimal member.number ∷ codes " " ∷ member_words member ∷ [])

-- ---- slots

-- the bytes of a message in lower-case hexadecimal digits, or a dash where there are none
unfoldable pub message_digits : List ℕ → List ℕ
message_digits [] = codes "-"
message_digits (byte ∷ bytes) = encode_lower (byte ∷ bytes)

-- what a slot comes to, in words
abbrev pub slot_words : SlotState → List ℕ
slot_words Empty = codes "empty"
slot_words (Bad first) = codes "bad " ++ decimal first
slot_words Mismatched = codes "mismatched"
slot_words (Message bytes) = codes "message " ++ decimal (length bytes) ++ codes " " ++ message_digits bytes

-- the line of a slot
unfoldable pub slot_line : ℕ → SlotState → List ℕ
slot_line number slot = line_of (codes "slot " ∷ decimal number ∷ codes " " ∷ slot_words slot ∷ [])

-- the lines of slots, of which the first has this number
unfoldable pub slot_lines : ℕ → List SlotState → List ℕ
slot_lines number [] = []
slot_lines number (slot ∷ slots) = slot_line number slot ++ slot_lines (number + 1) slots

-- ---- a group

-- whether a member is honest and shows slots
abbrev pub has_slots : MemberEnd → Bool
has_slots member = not member.faulty && is_some member.slots

-- whether a member is honest and shows a transcript
abbrev pub has_evidence : MemberEnd → Bool
has_evidence member = not member.faulty && is_some member.evidence

-- the slots of the least honest member that is done, if there is one
abbrev pub slots_found : List MemberEnd → Option (List SlotState)
slots_found members = option_and_then (λ (member : MemberEnd). member.slots) (find has_slots members)

-- and none where there is no such member
abbrev pub slots_seen : List MemberEnd → List SlotState
slots_seen members = unwrap_or (slots_found members) []

-- the transcript of the least honest member that blames somebody, if there is one
abbrev pub evidence_seen : List MemberEnd → Option (List ℕ)
evidence_seen members = option_and_then (λ (member : MemberEnd). member.evidence) (find has_evidence members)

-- what `group` prints: a line for each member, and then the slots
abbrev pub group_output : List MemberEnd → List ℕ
group_output members = flat_map member_line members ++ slot_lines 1 (slots_seen members)

-- ---- counts

-- whether a round is done, is open, or has ended with blame
abbrev pub is_done : State → Bool
is_done Done = true
is_done state = false

abbrev pub is_open : State → Bool
is_open (Waiting stage missing) = true
is_open state = false

abbrev pub is_blamed : State → Bool
is_blamed (Blamed accused claim) = true
is_blamed state = false

-- whether a member is honest and stands so
abbrev pub is_honest : (State → Bool) → MemberEnd → Bool
is_honest stands member = not member.faulty && stands member.state

-- how many do
abbrev pub honest_count : (State → Bool) → List MemberEnd → ℕ
honest_count stands members = count_by (is_honest stands) members

-- whether a slot has a message
abbrev pub is_message : SlotState → Bool
is_message (Message bytes) = true
is_message slot = false

-- how many bytes it has
abbrev pub message_size : SlotState → ℕ
message_size (Message bytes) = length bytes
message_size slot = 0

-- the line of what honest members came to
unfoldable pub members_line : List MemberEnd → List ℕ
members_line members = line_of (codes "members " ∷ decimal (length members) ∷ codes " done " ∷ decimal (honest_count is_done members)
    ∷ codes " open " ∷ decimal (honest_count is_open members) ∷ codes " blamed " ∷ decimal (honest_count is_blamed members) ∷ [])

-- the line of the messages of slots
unfoldable pub messages_line : List SlotState → List ℕ
messages_line slots = line_of (codes "messages " ∷ decimal (count_by is_message slots) ∷ codes " bytes "
    ∷ decimal (sum_by message_size slots) ∷ [])

-- what `make` prints: how the honest members stand, and how many messages there are, with their bytes
abbrev pub make_output : List MemberEnd → List ℕ
make_output members = members_line members ++ messages_line (slots_seen members)
