-- What each command comes to, as a function of its words and of the bytes of its files. A command has a row in each of
-- three tables: the files that it reads, what it comes to over them, and the faults that it may end with.
use Rattle.std.specs.Prelude.{◌≡◌, ◌⊎◌, ⊤, ℕ, List, [], ◌∷◌, map, Any, nat_lt, if◌then◌else◌, length, Option, Some, None, Result, Ok, Err, codes, decimal}
use Rattle.offline_commands.specs.declared.commands.TheConstants.{ROSTER_LIMIT, TOML_LIMIT, SCRIPT_LIMIT, TRANSCRIPT_LIMIT, POST_FILE_LIMIT}
use Rattle.offline_commands.specs.declared.status.Status.{Status}
use Rattle.offline_commands.specs.declared.status.Status.TheVariants.{Usage, Refused, ReadFault, WriteFault, DiskFault, BadRoster, TooLong, BadScript, OutOfMemory}
use Rattle.hex.specs.Hex.{encode_lower}
use Rattle.lm_ots.specs.declared.types.OtsType.{OtsType}
use Rattle.lms_tree.specs.declared.keys.LmsPublic.{LmsPublic}
use Rattle.lms_tree.specs.declared.secrets.MadeHeight.{MadeHeight}
use Rattle.lms_tree.specs.Tree.{key_bytes}
use Rattle.lms_tree.specs.Secret.{SecretParts, own_public, parts_of_master}
use Rattle.lms_tree.specs.States.{made_type}
use Rattle.judge_core.specs.declared.judging.Accepted.{Accepted}
use Rattle.offline_commands.specs.Command.{Request, Judge, Show, Keygen, Roster, Group, Make}
use Rattle.wire_core.specs.Answers.{◌>>=◌}
use Rattle.offline_commands.specs.Outside.{Held, Shows, IsMissing}
use Rattle.group_roster.specs.Binary.{roster_read}
use Rattle.group_roster.specs.Roster.{Roster as RosterKeys, roster_id}
use Rattle.group_roster.specs.Toml.{toml_read}
use Rattle.transcript_form.specs.Refusals.{Failure}
use Rattle.judge_core.specs.Checks.{printed_judgement_of}
use Rattle.transcript_form.specs.Claim.{claim_name}
use Rattle.round_script.specs.declared.fault.Fault.{Fault}
use Rattle.round_script.specs.declared.script.Script.{Script}
use Rattle.round_script.specs.Made.{made_script}
use Rattle.round_script.specs.Read.{script_read}
use Rattle.group_spec.specs.declared.ending.MemberEnd.{MemberEnd}
use Rattle.group_spec.specs.Scripts.{script_end}
use Rattle.group_threads.specs.Given.{end_shown}
use Rattle.group_report.specs.Report.{group_output, make_output}
use Rattle.offline_commands.specs.Show.{file_checked, shown_line}
use Rattle.group_report.specs.Report.{line_of}

-- ---- files that are read

-- a file that a command reads: its name, and the most bytes that it may have
pub record Input : Type 0 where
  pub name : List ℕ
  pub limit : ℕ

-- the files that each command reads, in their order
abbrev pub inputs_of : Request → List Input
inputs_of (Judge roster transcript) =
    (record { name = roster; limit = ROSTER_LIMIT }) ∷ (record { name = transcript; limit = TRANSCRIPT_LIMIT }) ∷ []
inputs_of (Show roster round post) = (record { name = roster; limit = ROSTER_LIMIT }) ∷ (record { name = post; limit = POST_FILE_LIMIT }) ∷
    []
inputs_of (Keygen key height width) = []
inputs_of (Roster toml out) = (record { name = toml; limit = TOML_LIMIT }) ∷ []
inputs_of (Group script roster transcript) = (record { name = script; limit = SCRIPT_LIMIT }) ∷ []
inputs_of (Make number members size fault) = []

-- a file that is read is there, and has at most this many bytes
abbrev pub within : ℕ → Option (List ℕ) → Result (List ℕ) Status
within limit None = Err ReadFault
within limit (Some bytes) = if nat_lt limit (length bytes) then Err (TooLong limit) else Ok bytes

-- files, each read within its limit
abbrev pub reads_of : List Input → List (Option (List ℕ)) → List (Result (List ℕ) Status)
reads_of (input ∷ inputs) (file ∷ files) = within input.limit file ∷ reads_of inputs files
reads_of inputs files = []

-- ---- what each command comes to

-- the status of a roster file that is outside its grammar
abbrev pub or_bad_roster : {V : Type 0} → Result V (ℕ × ℕ) → Result V Status
or_bad_roster (Ok roster) = Ok roster
or_bad_roster (Err offence) = Err (BadRoster offence.0 offence.1)

-- the output of `judge`
abbrev pub accepted_line : Accepted → List ℕ
accepted_line accepted =
    line_of (codes "accepted member " ∷ decimal accepted.accused ∷ codes " claim " ∷ claim_name accepted.claim ∷ [])

-- what is printed for a file that passes, or the status of the check that fails
abbrev pub or_refused : {A : Type 0} → (A → List ℕ) → Result A Failure → Result (List ℕ) Status
or_refused line (Ok passed) = Ok (line passed)
or_refused line (Err failed) = Err (Refused failed.check failed.post failed.at)

-- `judge`: the roster is read and decoded, and then the transcript is read and judged
abbrev pub judge_outcome : (roster_file transcript_file : Result (List ℕ) Status) → Result (List ℕ) Status
judge_outcome roster_file transcript_file = do
  roster_bytes ← roster_file
  roster ← or_bad_roster (roster_read roster_bytes)
  transcript ← transcript_file
  or_refused accepted_line (printed_judgement_of roster transcript)

-- `show`: the roster is read and decoded, and then the post is read and checked
abbrev pub show_outcome : ℕ → (roster_file post_file : Result (List ℕ) Status) → Result (List ℕ) Status
show_outcome round roster_file post_file = do
  roster_bytes ← roster_file
  roster ← or_bad_roster (roster_read roster_bytes)
  bytes ← post_file
  or_refused shown_line (file_checked round roster bytes)

-- the secret that `keygen` makes of a master
abbrev pub made_parts : MadeHeight → OtsType → List ℕ → SecretParts
made_parts height width master = parts_of_master (made_type height) width master

-- the output of `keygen`: the public key in lower-case hexadecimal digits
abbrev pub key_line : LmsPublic → List ℕ
key_line key = line_of (encode_lower (key_bytes key) ∷ [])

-- `keygen`: the line of the public key that a master gives
abbrev pub keygen_outcome : List ℕ → MadeHeight → OtsType → Result (List ℕ) Status
keygen_outcome master height width = Ok (key_line (own_public (made_parts height width master)))

-- the output of `roster`: the roster's id in lower-case hexadecimal digits
abbrev pub id_line : RosterKeys → List ℕ
id_line roster = line_of (encode_lower (roster_id roster) ∷ [])

-- `roster`: the file in TOML is read, and stands for a roster
abbrev pub roster_outcome : Result (List ℕ) Status → Result (List ℕ) Status
roster_outcome toml_file = do
  bytes ← toml_file
  roster ← or_bad_roster (toml_read bytes)
  Ok (id_line roster)

-- the status of a script that is outside its grammar
abbrev pub or_bad_script : {V : Type 0} → Result V ℕ → Result V Status
or_bad_script (Ok script) = Ok script
or_bad_script (Err line) = Err (BadScript line)

-- what is seen, at the end, of the members of a script's group
abbrev pub members_seen : Script → List MemberEnd
members_seen script = map end_shown (script_end script)

-- `group`: the script is read, and its group comes to its end
abbrev pub group_outcome : Result (List ℕ) Status → Result (List ℕ) Status
group_outcome script_file = do
  bytes ← script_file
  script ← or_bad_script (script_read bytes)
  Ok (group_output (members_seen script))

-- `make`: the group of a made script comes to its end
abbrev pub make_outcome : (number members size : ℕ) → Fault → Result (List ℕ) Status
make_outcome number members size fault = Ok (make_output (members_seen (made_script number members size fault)))

-- what each command comes to over its files as they were read, in their order; `keygen` takes the fresh bytes
abbrev pub outcome_over : List ℕ → Request → List (Result (List ℕ) Status) → Result (List ℕ) Status
outcome_over fresh (Judge roster transcript) (roster_file ∷ transcript_file ∷ []) = judge_outcome roster_file transcript_file
outcome_over fresh (Show roster round post) (roster_file ∷ post_file ∷ []) = show_outcome round roster_file post_file
outcome_over fresh (Keygen key height width) [] = keygen_outcome fresh height width
outcome_over fresh (Roster toml out) (toml_file ∷ []) = roster_outcome toml_file
outcome_over fresh (Group script roster transcript) (script_file ∷ []) = group_outcome script_file
outcome_over fresh (Make number members size fault) [] = make_outcome number members size fault
outcome_over fresh request files = Err Usage

-- the same over what stood at the names
abbrev pub outcome_of : List ℕ → Request → List (Option (List ℕ)) → Result (List ℕ) Status
outcome_of fresh request files = outcome_over fresh request (reads_of (inputs_of request) files)

-- ---- faults

-- a fault of this kind, which this status tells
abbrev pub Tells : Status → Type 0 → Status → Type 0
Tells failed fault status = (status ≡ failed) × fault

-- a fault of the files, in a read or in a write
abbrev pub TellsFiles : Type 0 → Status → Type 0
TellsFiles fault status = ((status ≡ ReadFault) ⊎ (status ≡ WriteFault)) × fault

-- no fault
abbrev pub TellsNone : Status → Type 0
TellsNone status = ⊥

-- the faults that each command may end with
abbrev pub MayTell : Request → (files_fault disk_fault : Type 0) → Status → Type 0
MayTell (Judge roster transcript) files_fault disk_fault = Tells ReadFault files_fault
MayTell (Show roster round post) files_fault disk_fault = Tells ReadFault files_fault
MayTell (Keygen key height width) files_fault disk_fault = Tells DiskFault disk_fault
MayTell (Roster toml out) files_fault disk_fault = TellsFiles files_fault
MayTell (Group script roster transcript) files_fault disk_fault = TellsFiles files_fault
MayTell (Make number members size fault) files_fault disk_fault = TellsNone

-- ---- answers

-- an answer is the one that a definition gives, but for want of memory, and for a fault, which a status tells
abbrev pub YieldsBy : (fault : Status → Type 0) → Result (List ℕ) Status → Result (List ℕ) Status → Type 0
YieldsBy fault expected answer =
    (answer ≡ expected) ⊎ (answer ≡ Err OutOfMemory) ⊎ ((status : Status) × (answer ≡ Err status) × fault status)

-- the same where a fault has one status
abbrev pub YieldsOr : Status → Type 0 → Result (List ℕ) Status → Result (List ℕ) Status → Type 0
YieldsOr failed fault expected answer = (answer ≡ expected) ⊎ (answer ≡ Err OutOfMemory) ⊎ ((answer ≡ Err failed) × fault)

-- the same where the fault is one of the files that are read
abbrev pub Yields : Type 0 → Result (List ℕ) Status → Result (List ℕ) Status → Type 0
Yields fault expected answer = YieldsOr ReadFault fault expected answer

-- what stood at the names of inputs when they were read, a file for each
abbrev pub Stood : Option Held → List Input → List (Option (List ℕ)) → Type 0
Stood told [] [] = ⊤
Stood told (input ∷ inputs) (file ∷ files) = Shows told input.name file × Stood told inputs files
Stood told inputs files = ⊥

-- what stands at the names of inputs, where that is known: where the files tell it, or where there are no inputs
abbrev pub known_files : List Input → Option Held → Option (List (Option (List ℕ)))
known_files [] told = Some []
known_files (input ∷ inputs) None = None
known_files (input ∷ inputs) (Some held) = Some (map (λ i. held i.name) (input ∷ inputs))

-- a file that the words name to be read is missing
abbrev pub Misses : Option Held → Request → Type 0
Misses told request = Any (λ input. IsMissing told input.name) (inputs_of request)
