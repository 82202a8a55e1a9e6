-- What the top call promises of a command that waits for others, and that it hands on all other words.
use Rattle.std.specs.Prelude.{◌≡◌, ◌≢◌, ◌⊎◌, ℕ, ◌<◌, ◌≤◌, List, [], ◌∷◌, Bool, false, IsTrue, Option, Some, None, IfSome, IsSome, IsSomeAnd, Result, Ok, Err, IsOk, IfErr, bytes_eq, codes, length}
use Rattle.outside.specs.Changes.{Change, Failed}
use Rattle.outside.specs.Faults.{Rose}
use Rattle.crash_disk.specs.Names.{Names}
use Rattle.transcript_form.specs.declared.claim.Claim.{Claim}
use Rattle.round_spec.specs.Say.{Configuration}
use Rattle.conviction.specs.Accepts.{Accepts}
use Rattle.group_report.specs.Report.{slot_lines}
use Rattle.round_link.specs.Traffic.{Traffic}
use Rattle.round_spec.specs.Runs.{Run}
use Rattle.member_core.specs.Promises.{IsAllHonest}
use Rattle.member_run.specs.declared.run_end.TheConstants.{FRAME_LIMIT}
use Rattle.accountability.specs.Messages.{HasEachMessage}
use Rattle.bulk_descriptor.specs.declared.slot_state.SlotState.{SlotState}
use Rattle.dissent_words.specs.Forms.{requested}
use Rattle.dissent_words.specs.Request.{Request, Text, for_member}
use Rattle.offline_commands.specs.declared.status.Status.{Status}
use Rattle.offline_commands.specs.declared.status.Status.TheVariants.{BadKeyFile, Blamed, Done, DiskFault, Exhausted, LinkFault, NotMember, OldRound, OutOfMemory, ReadFault, Usage, WriteFault}
use Rattle.offline_commands.specs.Delivery.{Delivers}
use Rattle.offline_commands.specs.Outside.{DiskTold, Gains, Held, HoldsNow, IsMissing, OthersStay, Shows}
use Rattle.offline_commands.specs.Promise.{Asked, IsRun}
use Rattle.member_entry.specs.Entering.{Entrant, Found, IsKeyFile, MemberWords, before_key, entrance_by, entrant_by, key_file_told, or_not_begun}
use Rattle.member_entry.specs.Steps.{IsLeftHalfRaised, IsUntouched, KeepsKeyFile, KeepsStanding}
use Rattle.online_commands.specs.TakingPart.{IsIdle, IsRaised, Outside, TookPart}

-- ---- a member

-- what a request gives, where it is one of `member`
abbrev pub member_words : Option Request → Option MemberWords
member_words (Some (for_member roster key round message transcript wait addresses)) = Some record {
  roster = roster;
  key = key;
  round = round;
  message = message;
  transcript = transcript;
  wait = wait;
  addresses = addresses;
}
member_words request = None

-- what stood where the command read
pub record WasFound (outside : Outside) (words : MemberWords) (found : Found) : Type 0 where
  pub roster : Shows outside.files.before words.roster found.roster_file
  pub message : Shows outside.files.before words.message found.message_file
  pub key : IsKeyFile outside.disk.before words.key found.key_file

-- the round could begin, and the raise of the key file broke off
abbrev pub BreaksRaise : Change DiskTold → MemberWords → Found → Type 0
BreaksRaise disk words found = (entrant : Entrant) × (entrant_by words found ≡ Ok entrant) × (or_not_begun words.round entrant.key ≡ Ok tt)
    × IsLeftHalfRaised disk words.key entrant.key

-- Memory was wanting, and the key file is as it was; or there was a fault that a count tells: of the files in a read, before
-- the disk was touched; of the disk, where the steps before the key file refuse nothing, and what stood under its name stands
-- there, or it was half raised, where the round could begin; or of the link, where the steps before it refuse nothing, and the
-- key file is as it was.
abbrev pub BreaksOff : Outside → MemberWords → Found → Result (List ℕ) Status → Type 0
BreaksOff outside words found answer = ((answer ≡ Err OutOfMemory) × KeepsKeyFile outside.disk words.key)
    ⊎ ((answer ≡ Err ReadFault) × Failed outside.files × IsUntouched outside.disk)
    ⊎ ((answer ≡ Err DiskFault) × Failed outside.disk × IsOk (before_key words found)
    × (KeepsStanding outside.disk words.key ⊎ BreaksRaise outside.disk words found))
    ⊎ ((answer ≡ Err LinkFault) × Rose outside.link_before.faults outside.link_now.faults × IsOk (entrant_by words found)
    × KeepsKeyFile outside.disk words.key)

-- No file was touched; nothing was taken from the link, and nothing posted. Where a step before the key file refuses, the
-- disk was left alone, and the link where a step before it does.
pub record IsSilent (outside : Outside) (words : MemberWords) (found : Found) : Type 0 where
  pub files : outside.files.now ≡ outside.files.before
  pub link : IsIdle outside.link_before outside.link_now
  pub disk_alone : IfErr (before_key words found) (λ _. IsUntouched outside.disk)
  pub link_alone : IfErr (entrant_by words found) (λ _. outside.link_now ≡ outside.link_before)

-- files, disk and link were left alone
pub record IsLeftAlone (outside : Outside) : Type 0 where
  pub files : outside.files.now ≡ outside.files.before
  pub disk : IsUntouched outside.disk
  pub link : outside.link_now ≡ outside.link_before

-- what came of a member by what was found: where that refuses it, this status, nothing was posted, and its key file is as it
-- was; else it took part in the round; and before that it may have broken off, or, the key file being raised, have had no
-- memory to begin with
abbrev pub ComesOf : Outside → MemberWords → Found → Result (Entrant × Configuration) Status → Result (List ℕ) Status → Type 0
ComesOf outside words found (Err status) answer = IsSilent outside words found
    × (((answer ≡ Err status) × KeepsKeyFile outside.disk words.key) ⊎ BreaksOff outside words found answer)
ComesOf outside words found (Ok entrance) answer = (IsSilent outside words found × BreaksOff outside words found answer)
    ⊎ (IsSilent outside words found × (answer ≡ Err OutOfMemory) × IsRaised outside.disk words.key words.round entrance.0)
    ⊎ TookPart words entrance.0 entrance.1 outside answer

-- the same of what the words ask for
abbrev pub MemberAnswers : Outside → List ℕ → Option MemberWords → Result (List ℕ) Status → Type 0
MemberAnswers outside fresh None answer = IsLeftAlone outside × ((answer ≡ Err Usage) ⊎ (answer ≡ Err OutOfMemory))
MemberAnswers outside fresh (Some words) answer =
    (found : Found) × WasFound outside words found × ComesOf outside words found (entrance_by words fresh found) answer

-- under each name but that of the key file stands what stood there
abbrev pub KeepsOtherNames : Option Names → Option Names → Option MemberWords → Type 0
KeepsOtherNames told now None = now ≡ told
KeepsOtherNames told now (Some words) = IfSome told (λ (before : Names). IsSomeAnd now (λ (after : Names).
    (other : Text) → other ≢ words.key → after.held other ≡ before.held other))

-- all files stay but the one that the transcript goes to
abbrev pub KeepsOtherFiles : Change (Option Held) → Option MemberWords → Type 0
KeepsOtherFiles files None = files.now ≡ files.before
KeepsOtherFiles files (Some words) = OthersStay files.before files.now words.transcript

-- What came of the words of `member`, before it is printed.
pub record IsMemberAnswered (outside : Outside) (fresh : List ℕ) (words : Option MemberWords) (answer : Result (List ℕ) Status) : Type 0
  where
    pub answers : MemberAnswers outside fresh words answer
    pub files_kept : KeepsOtherFiles outside.files words
    pub names_kept : KeepsOtherNames outside.disk.before.names outside.disk.now.names words
    pub files_count : outside.files.faults_before ≤ outside.files.faults_now
    pub disk_count : outside.disk.faults_before ≤ outside.disk.faults_now
    pub link_count : outside.link_before.faults ≤ outside.link_now.faults

-- ---- what a status tells

-- a file that the words name is missing: the roster's or the message's
abbrev pub LacksInput : Option Held → Option MemberWords → Type 0
LacksInput told None = ⊥
LacksInput told (Some words) = IsMissing told words.roster ⊎ IsMissing told words.message

-- a status that ends the command before the member posts
abbrev pub EndsBeforePosts : Status → Type 0
EndsBeforePosts DiskFault = Unit {0}
EndsBeforePosts (Exhausted next height) = Unit {0}
EndsBeforePosts (OldRound kept) = Unit {0}
EndsBeforePosts (BadKeyFile at) = Unit {0}
EndsBeforePosts NotMember = Unit {0}
EndsBeforePosts status = ⊥

-- a member entered with the roster that was read, and the file of the transcript's name holds bytes that convict this member
-- of this claim under that roster
pub record IsConvicted (outside : Outside) (words : MemberWords) (accused : ℕ) (claim : Claim) : Type 0 where
  pub found : Found
  pub stood : WasFound outside words found
  pub entrant : Entrant
  pub entered : entrant_by words found ≡ Ok entrant
  pub bytes : List ℕ
  pub written : HoldsNow outside.files.before outside.files.now words.transcript bytes
  pub accepts : Accepts entrant.roster bytes accused claim

abbrev pub HoldsEvidence : Outside → Option MemberWords → (accused : ℕ) → Claim → Type 0
HoldsEvidence outside None accused claim = ⊥
HoldsEvidence outside (Some words) accused claim = IsConvicted outside words accused claim

-- What a call with the words of `member` did, and with which status it ended.
pub record IsMemberRun (outside : Outside) (sink : Change (Option (List ℕ))) (fresh : List ℕ) (words : Option MemberWords) (status : Status)
    : Type 0 where
  -- it came to an answer, and printed it
  pub ends : (answer : Result (List ℕ) Status) × IsMemberAnswered outside fresh words answer × Delivers sink answer status
  pub sink_count : sink.faults_before ≤ sink.faults_now
  -- so a status of a fault stands only where a count of such faults rose, or where a file that is read is missing
  pub read_fault : status ≡ ReadFault → Failed outside.files ⊎ LacksInput outside.files.before words
  pub write_fault : status ≡ WriteFault → Failed outside.files ⊎ Failed sink
  pub link_fault : status ≡ LinkFault → Rose outside.link_before.faults outside.link_now.faults
  pub disk_fault : status ≡ DiskFault → Failed outside.disk
  -- what ends it before its posts took nothing from the link, and posted nothing
  pub no_post : EndsBeforePosts status → IsIdle outside.link_before outside.link_now
  -- and whom it blames the file convicts
  pub blamed : (accused : ℕ) (claim : Claim) → status ≡ Blamed accused claim → HoldsEvidence outside words accused claim

-- ---- all honest

-- all members are honest, and all that they have to say up to the closed checks arrives before the link has nothing more
pub record AllArrives (outside : Outside) (c : Configuration) (runs : List Run) : Type 0 where
  pub arrivals : List (List ℕ)
  pub left : IfSome outside.link_before.traffic (λ (traffic : Traffic). traffic.left ≡ arrivals)
  pub honest : IsAllHonest c arrivals runs
  pub few : length arrivals < FRAME_LIMIT

-- no count of faults rose
pub record HasNoFault (outside : Outside) (sink : Change (Option (List ℕ))) : Type 0 where
  pub files : ¬ Failed outside.files
  pub disk : ¬ Failed outside.disk
  pub link : ¬ Rose outside.link_before.faults outside.link_now.faults
  pub out : ¬ Failed sink

-- the whole list is printed, with each honest member's message; or memory ran out
abbrev pub PrintsAllMessages : Change (Option (List ℕ)) → Configuration → List Run → Status → Type 0
PrintsAllMessages sink c runs status = ((status ≡ Done) × ((slots : List SlotState) × HasEachMessage runs c.round slots
    × Gains sink.before sink.now (slot_lines 1 slots))) ⊎ (status ≡ OutOfMemory)

-- files, a disk and a link tell what they hold, and what stood there is known so
pub record WasTold (outside : Outside) (words : MemberWords) (found : Found) : Type 0 where
  pub files : IsSome outside.files.before
  pub disk : IsSome (key_file_told outside.disk.before words.key)
  pub link : IsSome outside.link_before.traffic
  pub stood : WasFound outside words found

-- so it is where the words, the files and the key file refuse nothing, and there was no fault
abbrev pub IsComplete : Outside → Change (Option (List ℕ)) → List ℕ → MemberWords → Status → Type 0
IsComplete outside sink fresh words status = (found : Found) (entrant : Entrant) (c : Configuration) (runs : List Run) →
    WasTold outside words found → entrance_by words fresh found ≡ Ok (entrant, c) → AllArrives outside c runs → HasNoFault outside sink →
    PrintsAllMessages sink c runs status

-- ---- the whole call

-- the first word is `member`
abbrev pub is_for_member : List Text → Bool
is_for_member [] = false
is_for_member (word ∷ words) = bytes_eq word (codes "member")

-- What the call did, and with which status it ended.
pub record IsWholeRun (asked : Asked) (outside : Outside) (sink : Change (Option (List ℕ))) (status : Status) : Type 0 where
  -- with the words of a member, or with words that only begin like them
  pub member : IsTrue (is_for_member asked.words) → IsMemberRun outside sink asked.fresh (member_words (requested asked.words)) status
  -- and where all members are honest, and are heard, their messages are printed
  pub complete : IsTrue (is_for_member asked.words) →
      IfSome (member_words (requested asked.words)) (λ words. IsComplete outside sink asked.fresh words status)
  -- with all others it is a call that waits for nobody, and leaves the link alone
  pub offline : is_for_member asked.words ≡ false → IsRun asked outside.files outside.disk sink status
  pub link : is_for_member asked.words ≡ false → outside.link_now ≡ outside.link_before
