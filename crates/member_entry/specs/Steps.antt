-- What the steps come to by which a member enters a round.
use Rattle.std.specs.Prelude.{◌≡◌, ◌≢◌, ◌⊎◌, ℕ, ◌≤◌, List, take, false, Option, Some, IfSome, IsSomeAnd, Result, Ok, Err, IsOk, IfErr, MatchResult}
use Rattle.outside.specs.Changes.{Change, Failed}
use Rattle.crash_disk.specs.Names.{Names}
use Rattle.group_roster.specs.Given.{roster_of}
use Rattle.group_roster.specs.Roster.{Roster}
use Rattle.key_store.specs.Crashes.{LeavesHalfRaised}
use Rattle.key_store.specs.KeyFiles.{key_read, parts_in}
use Rattle.key_store.specs.Store.{KeyState, kept_by}
use Rattle.key_store.specs.declared.layout.KeyContent.{KeyContent}
use Rattle.offline_commands.specs.declared.status.Status.{Status}
use Rattle.offline_commands.specs.declared.status.Status.TheVariants.{DiskFault, OutOfMemory, ReadFault}
use Rattle.offline_commands.specs.Outside.{DiskTold, Held, Shows}
use Rattle.member_entry.specs.declared.entering.Entrant.{Entrant as EntrantRead}
use Rattle.member_entry.specs.Entering.{Entrant, Found, IsKeyFile, MemberWords, ROUND_LEAVES, before_key, entrant_by, key_file_told, or_bad_key_file, or_not_begun, raised_to}
use Rattle.lms_tree.specs.States.{RunState}

-- a key file that was read, and works: its bytes say this
pub record IsOpen (key : KeyState) (content : KeyContent) : Type 0 where
  pub works : key.failed ≡ false
  pub says : key_read key.image ≡ Ok content
  pub parts : key.parts ≡ parts_in content
  pub kept : kept_by key ≡ content.kept

-- what was read is what a member comes with
pub record IsEntrant (e : EntrantRead) (entrant : Entrant) : Type 0 where
  pub roster : roster_of e.roster ≡ entrant.roster
  pub number : e.number ≡ entrant.number
  pub message : e.message.items ≡ entrant.message
  pub key : IsOpen e.key entrant.key

-- nothing of the disk was touched, as far as it tells
pub record IsUntouched (disk : Change DiskTold) : Type 0 where
  pub told : disk.now ≡ disk.before
  pub count : disk.faults_now ≡ disk.faults_before

-- a status of a fault: of the files in a read, before the disk was touched; or of the disk, where the steps before the key
-- file came to this, and refused nothing
abbrev pub IsReadFault : Change (Option Held) → Change DiskTold → Result (Roster × List ℕ) Status → Status → Type 0
IsReadFault files disk first status =
    ((status ≡ ReadFault) × Failed files × IsUntouched disk) ⊎ ((status ≡ DiskFault) × Failed disk × IsOk first)

-- the name that is chosen, where the disk tells its names
abbrev pub IsChosenNow : Option Names → List ℕ → Type 0
IsChosenNow told name = IfSome told (λ (names : Names). names.chosen ≡ Some name)

-- what stands under each name other than this stays
abbrev pub KeepsHeld : Option Names → Option Names → List ℕ → Type 0
KeepsHeld told now name = IfSome told (λ (before : Names). IsSomeAnd now (λ (after : Names).
    (other : List ℕ) → other ≢ name → after.held other ≡ before.held other))

-- the key file is as it was, where its bytes are known
abbrev pub KeepsKeyFile : Change DiskTold → List ℕ → Type 0
KeepsKeyFile disk name = key_file_told disk.now name ≡ key_file_told disk.before name

-- what stood under its name stands there, where that is known
abbrev pub KeepsStanding : Change DiskTold → List ℕ → Type 0
KeepsStanding disk name = IfSome (key_file_told disk.before name) (λ bytes. key_file_told disk.now name ≡ Some bytes)

-- the raise of a key file of this name that said this broke off, where its bytes are known: at most one slot differs, and it
-- stands for no less, where its slots were paired
abbrev pub IsLeftHalfRaised : Change DiskTold → List ℕ → KeyContent → Type 0
IsLeftHalfRaised disk name content = LeavesHalfRaised (key_file_told disk.before name) (key_file_told disk.now name) content ROUND_LEAVES

-- the answer of reading all: what a member comes with, by what stood there; or the status that refuses it; or memory was
-- wanting; the key file is as it was; or there was a fault
abbrev pub EntersBy : Change (Option Held) → Change DiskTold → MemberWords → Found → Result EntrantRead Status → Type 0
EntersBy files disk words found answer = MatchResult answer
    (λ e. (entrant : Entrant) × (entrant_by words found ≡ Ok entrant) × IsEntrant e entrant × IsChosenNow disk.now.names words.key
    × KeepsKeyFile disk words.key)
    (λ status. ((entrant_by words found ≡ Err status) × KeepsKeyFile disk words.key)
    ⊎ ((status ≡ OutOfMemory) × KeepsKeyFile disk words.key) ⊎ IsReadFault files disk (before_key words found) status)

-- What reading the roster, the message and the key file came to. The disk is touched only where the steps before the key
-- file refuse nothing. The files stay, and what stood under all names, and the name of the key file is chosen where that
-- was loaded.
pub record Enters (files : Change (Option Held)) (disk : Change DiskTold) (words : MemberWords) (answer : Result EntrantRead Status) : Type 0
  where
    pub found : Found
    pub roster : Shows files.before words.roster found.roster_file
    pub message : Shows files.before words.message found.message_file
    pub key : IsKeyFile disk.before words.key found.key_file
    pub answers : EntersBy files disk words found answer
    pub untouched : IfErr (before_key words found) (λ _. IsUntouched disk)
    pub stands : KeepsStanding disk words.key
    pub names : KeepsHeld disk.before.names disk.now.names words.key
    pub files_kept : files.now ≡ files.before
    pub files_count : files.faults_before ≤ files.faults_now
    pub disk_count : disk.faults_before ≤ disk.faults_now

-- What opening the key file of a name came to: it says what its bytes are read as; or these are refused; or memory was
-- wanting, or the disk failed. What stands under all names stays, and where it is loaded this name is chosen.
pub record Opens (disk : Change DiskTold) (name : List ℕ) (answer : Result KeyState Status) : Type 0 where
  pub read : Result KeyContent ℕ
  pub told : IsKeyFile disk.before name read
  pub answers : MatchResult answer
      (λ key. (content : KeyContent) × (read ≡ Ok content) × IsOpen key content × IsChosenNow disk.now.names name × KeepsKeyFile disk name)
      (λ status. ((or_bad_key_file read ≡ Err status) × KeepsKeyFile disk name)
      ⊎ ((status ≡ OutOfMemory) × KeepsKeyFile disk name) ⊎ ((status ≡ DiskFault) × Failed disk))
  pub stands : KeepsStanding disk name
  pub names : KeepsHeld disk.before.names disk.now.names name
  pub count : disk.faults_before ≤ disk.faults_now

-- What beginning a round came to with a key file that said this: its next leaves are taken, and it says so, and so do the
-- bytes of the disk's file, where they are told; or the round or the leaves are refused, or memory was wanting, and nothing
-- is touched; or the round could begin, and the disk failed: then at most one slot of the file differs, and it stands for no
-- less, where its slots were paired.
pub record Begins (disk : Change DiskTold) (round : ℕ) (content : KeyContent) (key : KeyState) (answer : Result RunState Status) : Type 0 where
  pub answers : MatchResult answer
      (λ run. (or_not_begun round content ≡ Ok tt)
      × (run ≡ record { parts = parts_in content; first = content.kept.next; left = ROUND_LEAVES })
      × IfSome disk.before.file (λ _. IsSomeAnd disk.now.file (λ bytes. key_read (take 128 bytes) ≡ Ok (raised_to round content)))
      × IsOpen key (raised_to round content))
      (λ status. ((or_not_begun round content ≡ Err status) × IsUntouched disk)
      ⊎ ((status ≡ OutOfMemory) × IsUntouched disk)
      ⊎ ((status ≡ DiskFault) × Failed disk × (or_not_begun round content ≡ Ok tt)
      × LeavesHalfRaised disk.before.file disk.now.file content ROUND_LEAVES))
  pub count : disk.faults_before ≤ disk.faults_now
