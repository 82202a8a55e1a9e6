-- What the top call promises: a sentence each, over what was asked and over what the files, the disk and the sink held
-- before the call and hold now.
use Rattle.std.specs.Prelude.{◌≡◌, ◌≢◌, ◌≤◌, ◌⊎◌, IsTrue, ℕ, List, [], ◌∷◌, take, Option, None, Some, option_map, Result, Ok, Err, IfSome, IfOk, IsSomeAnd}
use Rattle.outside.specs.Changes.{Change, Failed}
use Rattle.offline_commands.specs.declared.commands.TheConstants.{TOML_LIMIT, SCRIPT_LIMIT}
use Rattle.offline_commands.specs.declared.status.Status.{Status}
use Rattle.offline_commands.specs.declared.status.Status.TheVariants.{Done, Usage, ReadFault, WriteFault, DiskFault, OutOfMemory}
use Rattle.offline_commands.specs.Outside.{DiskTold, Held, Shows, HoldsNow, IsWrite, AllOthersStay, Gains}
use Rattle.offline_commands.specs.Command.{Request, Judge, Show, Keygen, Roster as MakeRoster, Group, Make, makes_key, written_names, requested}
use Rattle.offline_commands.specs.Outcome.{Input, within, inputs_of, roster_outcome, group_outcome, members_seen, outcome_of, TellsFiles, MayTell, YieldsBy, Stood, known_files, Misses, made_parts, key_line, accepted_line, id_line}
use Rattle.group_roster.specs.Toml.{toml_read}
use Rattle.round_script.specs.declared.fault.Fault.{Fault}
use Rattle.round_script.specs.declared.script.Script.{Script}
use Rattle.round_script.specs.Made.{made_script}
use Rattle.round_script.specs.Read.{script_read}
use Rattle.round_script.specs.Script.{IsScript}
use Rattle.group_spec.specs.Scripts.{script_roster}
use Rattle.group_report.specs.Report.{evidence_seen, group_output, make_output}
use Rattle.group_laws.specs.Accountable.{IsAccountable}
use Rattle.conviction.specs.Accepts.{Accepts}
use Rattle.transcript_form.specs.declared.claim.Claim.{Claim}
use Rattle.conviction.specs.Framing.{HasNoHonestRun, NoRunsSaid}
use Rattle.judge_core.specs.declared.judging.Accepted.{Accepted}
use Rattle.group_roster.specs.Roster.{Roster, IsRosterFile, roster_spelling}
use Rattle.phase_message.specs.declared.content.Content.{Content}
use Rattle.signed_post.specs.Admission.{IsPostFile}
use Rattle.offline_commands.specs.Show.{shown_line}
use Rattle.offline_commands.specs.Delivery.{Delivers, status_of}
use Rattle.lms_tree.specs.Secret.{own_public}
use Rattle.lm_ots.specs.declared.types.OtsType.{OtsType}
use Rattle.lms_tree.specs.declared.secrets.MadeHeight.{MadeHeight}
use Rattle.key_store.specs.KeyFiles.{key_read, new_content}
use Rattle.crash_disk.specs.Names.{Names, StoodStays}

-- what the call was asked: the words, and the bytes that `keygen` makes a key of
pub record Asked : Type 0 where
  pub words : List (List ℕ)
  pub fresh : List ℕ

-- the command that the words ask for
abbrev pub request_in : Asked → Option Request
request_in asked = requested asked.words

-- the words ask for a key file
abbrev pub MakesKey : Option Request → Type 0
MakesKey request = IsTrue (makes_key request)

-- ---- answers and statuses

-- An answer to a request over these files and this disk. Other words come to Usage, if there is memory to read them.
abbrev pub AnswersRequest : List ℕ → Change (Option Held) → Change DiskTold → Option Request → Result (List ℕ) Status → Type 0
AnswersRequest fresh files disk None answer = (answer ≡ Err Usage) ⊎ (answer ≡ Err OutOfMemory)
AnswersRequest fresh files disk (Some request) answer =
    (contents : List (Option (List ℕ))) × Stood files.before (inputs_of request) contents
    × YieldsBy (MayTell request (Failed files) (Failed disk)) (outcome_of fresh request contents) answer

-- the answer to what was asked
abbrev pub Answers : Asked → Change (Option Held) → Change DiskTold → Result (List ℕ) Status → Type 0
Answers asked files disk answer = AnswersRequest asked.fresh files disk (request_in asked) answer

-- what a request comes to, where that is known; other words come to Usage
abbrev pub expected_of : List ℕ → Option Held → Option Request → Option (Result (List ℕ) Status)
expected_of fresh told None = Some (Err Usage)
expected_of fresh told (Some request) = option_map (outcome_of fresh request) (known_files (inputs_of request) told)

abbrev pub expected_in : Asked → Change (Option Held) → Option (Result (List ℕ) Status)
expected_in asked files = expected_of asked.fresh files.before (request_in asked)

-- the faults of files and disk that a request may end with
abbrev pub FaultOf : Change (Option Held) → Change DiskTold → Option Request → Status → Type 0
FaultOf files disk None status = ⊥
FaultOf files disk (Some request) status = MayTell request (Failed files) (Failed disk) status

-- a status is the one expected, but for want of memory, for a fault, which the status tells, and for one of the sink
abbrev pub IsStatusOf : Result (List ℕ) Status → (fault : Status → Type 0) → (write_fault : Type 0) → Status → Type 0
IsStatusOf expected fault write_fault status =
    (status ≡ status_of expected) ⊎ (status ≡ OutOfMemory) ⊎ fault status ⊎ ((status ≡ WriteFault) × write_fault)

-- where there was no fault, an output is printed whole
abbrev pub IsWhole : (fault : Status → Type 0) → Change (Option (List ℕ)) → Status → Result (List ℕ) Status → Type 0
IsWhole fault sink status expected = IfOk expected (λ output. ((told : Status) → ¬ fault told) → ¬ Failed sink
    → ((status ≡ Done) × Gains sink.before sink.now output) ⊎ (status ≡ OutOfMemory))

-- ---- what bears an output out

-- Two files convict a member, and an output says whom and of what. The first spells a roster, and the second convicts
-- under it. Nobody honest is convicted: the member has a run in no list of honest runs, unless a signature was forged
-- among the posts that the second lists, or two strings of the runs and of the second have one hash. Nor did honest runs
-- say what is listed of the member, unless two such strings have one hash.
pub record IsConviction (roster_file transcript_file : Option (List ℕ)) (output : List ℕ) : Type 0 where
  pub roster_bytes : List ℕ
  pub bytes : List ℕ
  pub roster : Roster
  pub accepted : Accepted
  pub roster_is : roster_file ≡ Some roster_bytes
  pub transcript_is : transcript_file ≡ Some bytes
  pub spelled : IsRosterFile roster × (roster_bytes ≡ roster_spelling roster)
  pub accepts : Accepts roster bytes accepted.accused accepted.claim
  pub printed : output ≡ accepted_line accepted
  pub nobody_honest : HasNoHonestRun roster bytes accepted.accused
  pub no_framing : NoRunsSaid roster bytes accepted.accused

-- the files of these names convict
abbrev pub FilesConvict : Option Held → List ℕ → List ℕ → List ℕ → Type 0
FilesConvict told roster transcript output =
    (roster_file transcript_file : Option (List ℕ)) × Shows told roster roster_file × Shows told transcript transcript_file
    × IsConviction roster_file transcript_file output

-- Two files hold a post that passes, and an output tells what it says. The first spells a roster, and the second a
-- post that this roster admits for the round, with a body in the grammar.
pub record IsShowing (round : ℕ) (roster_file post_file : Option (List ℕ)) (output : List ℕ) : Type 0 where
  pub roster_bytes : List ℕ
  pub bytes : List ℕ
  pub roster : Roster
  pub content : Content
  pub roster_is : roster_file ≡ Some roster_bytes
  pub post_is : post_file ≡ Some bytes
  pub spelled : IsRosterFile roster × (roster_bytes ≡ roster_spelling roster)
  pub passes : IsPostFile roster round bytes content
  pub printed : output ≡ shown_line content

-- the files of these names hold a post that passes
abbrev pub FilesShow : Option Held → List ℕ → ℕ → List ℕ → List ℕ → Type 0
FilesShow told roster round post output =
    (roster_file post_file : Option (List ℕ)) × Shows told roster roster_file × Shows told post post_file
    × IsShowing round roster_file post_file output

-- nothing stood under a name, where now there is the key file of this master, which stands for round 0 and leaf 0; what
-- stands under all other names stays
pub record HasMade (height : MadeHeight) (width : OtsType) (master name : List ℕ) (before now : Names) : Type 0 where
  pub missing : before.held name ≡ None
  pub holds : IsSomeAnd (now.held name) (λ file. key_read (take 128 file) ≡ Ok (new_content height width master))
  pub others : (other : List ℕ) → other ≢ name → now.held other ≡ before.held other

-- the same where the names are told, which then they are now too
abbrev pub MakesFile : MadeHeight → OtsType → (master name : List ℕ) → Option Names → Option Names → Type 0
MakesFile height width master name told now = IfSome told (λ before. IsSomeAnd now (HasMade height width master name before))

-- an output is the line of the public key that a master gives, and the disk, as far as it tells, has the key file of this
-- master, under a name where nothing stood
pub record IsMade (height : MadeHeight) (width : OtsType) (master name : List ℕ) (disk : Change DiskTold) (output : List ℕ)
    : Type 0 where
  pub printed : output ≡ key_line (own_public (made_parts height width master))
  pub holds : IfSome disk.now.file (λ file. key_read (take 128 file) ≡ Ok (new_content height width master))
  pub named : MakesFile height width master name disk.before.names disk.now.names

-- A file stands for a roster in TOML, and an output is this roster's id. The file of the name `out`, where the files
-- tell it, now holds the roster's bytes.
pub record IsWritten (files : Change (Option Held)) (toml_file : Option (List ℕ)) (out output : List ℕ) : Type 0 where
  pub bytes : List ℕ
  pub roster : Roster
  pub toml_is : toml_file ≡ Some bytes
  pub stands_for : toml_read bytes ≡ Ok roster
  pub form : IsRosterFile roster
  pub holds : HoldsNow files.before files.now out (roster_spelling roster)
  pub printed : output ≡ id_line roster

-- the file of this name stands for the roster that was written
abbrev pub FilesHold : Change (Option Held) → List ℕ → List ℕ → List ℕ → Type 0
FilesHold files toml out output = (toml_file : Option (List ℕ)) × Shows files.before toml toml_file × IsWritten files toml_file out output

-- a transcript was written under a name, or there is none, and nothing was written
abbrev pub WritesTranscript : Option Held → Option Held → List ℕ → Option (List ℕ) → Type 0
WritesTranscript old new name (Some bytes) = IsWrite old new name bytes
WritesTranscript old new name None = new ≡ old

-- a roster was written under a name, and then a transcript under another, or the same, if there is one
pub record WritesGroup (before now : Option Held) (roster transcript spelled : List ℕ) (evidence : Option (List ℕ))
    : Type 0 where
  pub middle : Option Held
  pub roster_first : IsWrite before middle roster spelled
  pub transcript_then : WritesTranscript middle now transcript evidence

-- bytes convict a member of the group of a script, under its roster
abbrev pub ConvictsIn : Script → List ℕ → Type 0
ConvictsIn script bytes = (accused : ℕ) × (claim : Claim) × Accepts (script_roster script) bytes accused claim

-- A file spells a script, and an output tells what its group comes to, which is accountable. The roster of the group was
-- written under a name, and then the transcript of the least honest member that blames somebody, if there is one, under
-- another; and this transcript convicts under this roster.
pub record IsGroupRun (files : Change (Option Held)) (script_file : Option (List ℕ)) (roster transcript output : List ℕ) : Type 0 where
  pub bytes : List ℕ
  pub script : Script
  pub script_is : script_file ≡ Some bytes
  pub reads : script_read bytes ≡ Ok script
  pub form : IsScript script
  pub accountable : IsAccountable script
  pub writes : WritesGroup files.before files.now roster transcript (roster_spelling (script_roster script))
      (evidence_seen (members_seen script))
  pub convicts : IfSome (evidence_seen (members_seen script)) (ConvictsIn script)
  pub printed : output ≡ group_output (members_seen script)

-- the file of a name spells a script whose group was run
abbrev pub FilesRun : Change (Option Held) → (script roster transcript output : List ℕ) → Type 0
FilesRun files script roster transcript output =
    (script_file : Option (List ℕ)) × Shows files.before script script_file × IsGroupRun files script_file roster transcript output

-- a script was made, and an output counts what its group comes to, which is accountable
pub record IsMadeRun (number members size : ℕ) (fault : Fault) (output : List ℕ) : Type 0 where
  pub form : IsScript (made_script number members size fault)
  pub accountable : IsAccountable (made_script number members size fault)
  pub printed : output ≡ make_output (members_seen (made_script number members size fault))

-- The outside bears an output out: the files that the words name convict whom `judge` names, or hold what `show` tells;
-- or the disk holds the key file that `keygen` makes of the master; or a file holds the roster that `roster` tells of; or
-- a file has the script whose group `group` runs, and what it writes was written. `make` has its words alone.
abbrev pub BearsOutRequest : List ℕ → Change (Option Held) → Change DiskTold → Option Request → List ℕ → Type 0
BearsOutRequest fresh files disk None output = ⊥
BearsOutRequest fresh files disk (Some (Judge roster transcript)) output = FilesConvict files.before roster transcript output
BearsOutRequest fresh files disk (Some (Show roster round post)) output = FilesShow files.before roster round post output
BearsOutRequest fresh files disk (Some (Keygen key height width)) output = IsMade height width fresh key disk output
BearsOutRequest fresh files disk (Some (MakeRoster toml out)) output = FilesHold files toml out output
BearsOutRequest fresh files disk (Some (Group script roster transcript)) output = FilesRun files script roster transcript output
BearsOutRequest fresh files disk (Some (Make number members size fault)) output = IsMadeRun number members size fault output

abbrev pub BearsOut : Asked → Change (Option Held) → Change DiskTold → List ℕ → Type 0
BearsOut asked files disk output = BearsOutRequest asked.fresh files disk (request_in asked) output

-- an answer that is an output has P, and one that is a status is not Done
abbrev pub OnOutput : (List ℕ → Type 0) → Result (List ℕ) Status → Type 0
OnOutput P (Ok output) = P output
OnOutput P (Err status) = status ≢ Done

-- an output that has P is what the sink gained
abbrev pub PrintsOutput : (List ℕ → Type 0) → Change (Option (List ℕ)) → Type 0
PrintsOutput P sink = (output : List ℕ) × P output × Gains sink.before sink.now output

-- ---- what stays

-- all files stay, or all but those of some names
abbrev pub FilesKept : Change (Option Held) → List (List ℕ) → Type 0
FilesKept files [] = files.now ≡ files.before
FilesKept files (name ∷ names) = AllOthersStay files.before files.now (name ∷ names)

-- No file is touched where the status says that no write was come to. Out of memory doesn't say so: there is memory for all
-- of an output before its first write, but a write may want memory of its own, and then leaves its name with any bytes.
abbrev pub IsUntouched : Change (Option Held) → Status → Type 0
IsUntouched files status = status ≢ Done → status ≢ WriteFault → status ≢ OutOfMemory → files.now ≡ files.before

-- ---- the promises

-- what came of the words, before it is printed
pub record IsAnswered (asked : Asked) (files : Change (Option Held)) (disk : Change DiskTold)
    (answer : Result (List ℕ) Status) : Type 0 where
  pub answers : Answers asked files disk answer
  pub borne_out : OnOutput (BearsOut asked files disk) answer
  pub files_kept : FilesKept files (written_names (request_in asked))
  pub untouched : IsUntouched files (status_of answer)
  pub files_count : files.faults_before ≤ files.faults_now
  pub disk_kept : ¬ MakesKey (request_in asked) → (disk.now ≡ disk.before) × (disk.faults_now ≡ disk.faults_before)
  pub disk_stood : StoodStays disk.before.names disk.now.names
  pub disk_count : disk.faults_before ≤ disk.faults_now

-- What came of a command that reads one file and then writes files of these names: an answer by what it comes to over the
-- file, and by what bears its output out.
pub record IsFileRun (files : Change (Option Held)) (input : Input) (outcome : Result (List ℕ) Status → Result (List ℕ) Status)
    (Bears : List ℕ → Type 0) (names : List (List ℕ)) (answer : Result (List ℕ) Status) : Type 0 where
  pub answers : (file : Option (List ℕ)) × Shows files.before input.name file
      × YieldsBy (TellsFiles (Failed files)) (outcome (within input.limit file)) answer
  pub borne_out : OnOutput Bears answer
  pub others : AllOthersStay files.before files.now names
  pub untouched : IsUntouched files (status_of answer)
  pub count : files.faults_before ≤ files.faults_now

-- what came of `roster`
abbrev pub IsRosterRun : Change (Option Held) → (toml out : List ℕ) → Result (List ℕ) Status → Type 0
IsRosterRun files toml out =
    IsFileRun files (record { name = toml; limit = TOML_LIMIT }) roster_outcome (FilesHold files toml out) (out ∷ [])

-- what came of `group`
abbrev pub IsScriptRun : Change (Option Held) → (script roster transcript : List ℕ) → Result (List ℕ) Status → Type 0
IsScriptRun files script roster transcript =
    IsFileRun files (record { name = script; limit = SCRIPT_LIMIT }) group_outcome (FilesRun files script roster transcript)
    (roster ∷ transcript ∷ [])

-- how an answer was printed
pub record IsPrinted (sink : Change (Option (List ℕ))) (answer : Result (List ℕ) Status) (status : Status) : Type 0 where
  pub delivers : Delivers sink answer status
  pub count : sink.faults_before ≤ sink.faults_now

-- What the call did, and with which status it ended.
pub record IsRun (asked : Asked) (files : Change (Option Held)) (disk : Change DiskTold) (sink : Change (Option (List ℕ)))
    (status : Status) : Type 0 where
  -- it came to an answer to what was asked, with all that is promised of it whether or not it could be printed, and printed it
  pub ends : (answer : Result (List ℕ) Status) × IsAnswered asked files disk answer × Delivers sink answer status
  -- where it is known what the words come to, the status follows from it, but for memory and for faults that counts tell
  pub follows : IfSome (expected_in asked files)
      (λ expected. IsStatusOf expected (FaultOf files disk (request_in asked)) (Failed sink) status)
  -- and with no fault the whole output is printed
  pub complete : IfSome (expected_in asked files) (IsWhole (FaultOf files disk (request_in asked)) sink status)
  -- Done comes of `judge` only where the files convict, and whoever they convict is not honest; of `show` only where the
  -- post passes the eight checks; of `keygen` only where the name, under which nothing stood, has the key file of the
  -- fresh bytes; of `roster` only where the file of its name now holds the roster that the file in TOML stands for; of
  -- `group` only where the output is what the group of the script comes to, and its roster and the transcript, which
  -- convicts under it, were written; and of `make` only where it counts what the group of the made script comes to. Both
  -- groups are accountable.
  pub borne_out : status ≡ Done → PrintsOutput (BearsOut asked files disk) sink
  -- what each status of words and faults tells
  pub usage : status ≡ Usage → request_in asked ≡ None
  pub read_fault : status ≡ ReadFault → Failed files ⊎ IsSomeAnd (request_in asked) (Misses files.before)
  pub disk_fault : status ≡ DiskFault → Failed disk
  pub write_fault : status ≡ WriteFault → Failed sink ⊎ (Failed files × (written_names (request_in asked) ≢ []))
  -- what stays: the files but for those that `roster` and `group` write, the disk but in `keygen`, and whatever stood on it
  -- in `keygen` too; and no count falls
  pub files_kept : FilesKept files (written_names (request_in asked))
  pub untouched : IsUntouched files status
  pub disk_kept : ¬ MakesKey (request_in asked) → (disk.now ≡ disk.before) × (disk.faults_now ≡ disk.faults_before)
  pub disk_stood : StoodStays disk.before.names disk.now.names
  pub files_count : files.faults_before ≤ files.faults_now
  pub disk_count : disk.faults_before ≤ disk.faults_now
  pub sink_count : sink.faults_before ≤ sink.faults_now
