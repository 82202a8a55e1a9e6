-- What comes of a round that a member took part in.
use Rattle.std.specs.Prelude.{◌≡◌, ◌≢◌, ◌⊎◌, ℕ, ◌<◌, ◌≤◌, List, [], All, length, take, Option, IfSome, IsSome, IsSomeAnd, Result, Ok, Err}
use Rattle.outside.specs.Changes.{Change, Failed}
use Rattle.outside.specs.Faults.{Rose}
use Rattle.wire_core.specs.Bytes.{IsBytes}
use Rattle.transcript_form.specs.declared.transcript.Transcript.{Transcript}
use Rattle.transcript_form.specs.Transcript.{transcript_spelling}
use Rattle.key_store.specs.KeyFiles.{key_read}
use Rattle.round_link.specs.Traffic.{Shown, Traffic, posts_in}
use Rattle.round_spec.specs.Result.{Blamed as BlamedBy, DoneWith, Outcome, Waiting, result_of}
use Rattle.round_spec.specs.Runs.{HonestRun, IsConfiguration, run_after}
use Rattle.round_spec.specs.Say.{Configuration}
use Rattle.member_spec.specs.Outcomes.{bits_of, state_of}
use Rattle.member_core.specs.Promises.{IsOneList, KeepsPromise}
use Rattle.member_run.specs.declared.run_end.RunEnd.{RunEnd}
use Rattle.member_run.specs.declared.run_end.RunEnd.TheVariants.{Ended, Waiting as RunWaiting, LinkFault as RunLinkFault, Flooded as RunFlooded, OutOfMemory as RunOutOfMemory}
use Rattle.member_run.specs.declared.run_end.TheConstants.{FRAME_LIMIT}
use Rattle.member_run.specs.Ran.{BeginsWith, Exchange, IfTold, IsAllTaken, count_after, posts_due}
use Rattle.group_report.specs.Report.{slot_lines}
use Rattle.offline_commands.specs.declared.status.Status.{Status}
use Rattle.offline_commands.specs.declared.status.Status.TheVariants.{Blamed, Flooded, LinkFault, Open, OutOfMemory, WriteFault}
use Rattle.offline_commands.specs.Outside.{DiskTold, Held, HoldsNow}
use Rattle.member_entry.specs.Entering.{Entrant, MemberWords, key_file_told, raised_to}

-- the outside over a call, but for what is printed: files, the disk of the key file, and the link to the others
pub record Outside : Type 0 where
  pub files : Change (Option Held)
  pub disk : Change DiskTold
  pub link_before : Shown
  pub link_now : Shown

-- nothing was taken from a link, and nothing posted
abbrev pub IsIdle : (before now : Shown) → Type 0
IsIdle before now = (now.traffic ≡ before.traffic) × (now.frames ≡ before.frames) × (now.ends ≡ before.ends)

-- What was taken and posted: the frames that came; at each `recv` just the posts were made that the frames before it asked
-- for; and all posts that are due, where P, and their first ones else.
abbrev pub Converses : Configuration → List (List ℕ) → Type 0 → (before now : Traffic) → Type 0
Converses c frames P before now = (exchange : Exchange c [] 0 frames before now)
    × (P → posts_in exchange.calls ≡ posts_due c frames 0) × BeginsWith (posts_due c frames 0) (posts_in exchange.calls)

-- an answer is neither that the link failed, nor that memory was wanting
abbrev pub IsHeardOut : Result (List ℕ) Status → Type 0
IsHeardOut answer = (answer ≢ Err LinkFault) × (answer ≢ Err OutOfMemory)

-- ---- what it comes to

-- what is told of an outcome: the slots of the list, or the status that ends the command
abbrev pub told_of : Outcome → Result (List ℕ) Status
told_of (Waiting stage members) = Err (Open stage (bits_of members))
told_of (BlamedBy t) = Err (Blamed t.accused t.claim)
told_of (DoneWith slots) = Ok (slot_lines 1 slots)

-- a round waits
abbrev pub IsWaiting : Outcome → Type 0
IsWaiting outcome = (stage : ℕ) × (members : List ℕ) × (outcome ≡ Waiting stage members)

-- it waits only where P
abbrev pub WaitsOnlyIf : Type 0 → Outcome → Type 0
WaitsOnlyIf P (Waiting stage members) = P
WaitsOnlyIf P outcome = Unit {0}

-- the file of this name holds the transcript, where somebody is blamed; else no file was touched
abbrev pub HoldsTranscript : Change (Option Held) → List ℕ → Outcome → Type 0
HoldsTranscript files name (BlamedBy t) = HoldsNow files.before files.now name (transcript_spelling t)
HoldsTranscript files name outcome = files.now ≡ files.before

-- somebody is blamed
abbrev pub IsBlamed : Outcome → Type 0
IsBlamed outcome = (t : Transcript) × (outcome ≡ BlamedBy t)

-- what a settled outcome is told as, with the transcript written; or that could not be written, or memory was wanting, and no
-- file was touched unless somebody is blamed
abbrev pub Settles : Change (Option Held) → List ℕ → Outcome → Result (List ℕ) Status → Type 0
Settles files name outcome answer = ((answer ≡ told_of outcome) × HoldsTranscript files name outcome)
    ⊎ ((answer ≡ Err WriteFault) × IsBlamed outcome × Failed files)
    ⊎ ((answer ≡ Err OutOfMemory) × (IsBlamed outcome ⊎ (files.now ≡ files.before)))

-- The answer of a round that was taken part in. It is settled where it ended, and where nothing comes any more,
-- with no frame left, and fewer taken than are taken at most; or it was flooded, or the link failed.
abbrev pub Ends : Change (Option Held) → List ℕ → (before now : Shown) → List (List ℕ) → Outcome → Result (List ℕ) Status → Type 0
Ends files name before now frames outcome answer =
    (WaitsOnlyIf (Rose before.ends now.ends × IsAllTaken now × (length frames < FRAME_LIMIT)) outcome × Settles files name outcome answer)
    ⊎ ((answer ≡ Err Flooded) × IsWaiting outcome × (length frames ≡ FRAME_LIMIT) × (files.now ≡ files.before))
    ⊎ ((answer ≡ Err LinkFault) × Rose before.faults now.faults × (files.now ≡ files.before))
    ⊎ ((answer ≡ Err OutOfMemory) × (files.now ≡ files.before))

-- the key file says that the round has begun, and that its leaves are used, where its bytes are known
abbrev pub IsRaised : Change DiskTold → List ℕ → ℕ → Entrant → Type 0
IsRaised disk name round entrant = IfSome (key_file_told disk.before name) (λ _. IsSomeAnd (key_file_told disk.now name) (λ bytes.
    key_read (take 128 bytes) ≡ Ok (raised_to round entrant.key)))

-- what a member that is done prints are the slots of each other member of the round that is done
abbrev pub IsListOfAll : Configuration → List (List ℕ) → Outcome → Type 0
IsListOfAll c frames (DoneWith slots) = IsOneList c frames slots
IsListOfAll c frames outcome = Unit {0}

-- A member entered the round, its key file being raised, and took these frames. Whatever the frames are, the round stands as
-- their result, and, unless memory was wanting, they are bytes, its run is honest, and it keeps the promise of its end: each
-- honest message is there; or the evidence convicts somebody faulty; or exactly those are named who are missed.
pub record TookPart (words : MemberWords) (entrant : Entrant) (c : Configuration) (outside : Outside) (answer : Result (List ℕ) Status) : Type 0
  where
    pub frames : List (List ℕ)
    -- it stands among honest runs as soon as its own is one of them, and nothing of theirs was forged in the frames
    pub config : IsConfiguration c
    pub bytes : answer ≢ Err OutOfMemory → All IsBytes frames
    pub honest : answer ≢ Err OutOfMemory → HonestRun (run_after c frames)
    pub stood : IfSome outside.disk.before.names (λ _. IsSome (key_file_told outside.disk.before words.key))
    pub raised : IsRaised outside.disk words.key words.round entrant
    pub counted : outside.link_now.frames ≡ count_after (length frames) outside.link_before.frames
    pub at_most : length frames ≤ FRAME_LIMIT
    pub converses : IfTold outside.link_before outside.link_now (Converses c frames (IsHeardOut answer))
    pub promise : answer ≢ Err OutOfMemory → KeepsPromise c frames (state_of (result_of c frames))
    pub one_list : answer ≢ Err OutOfMemory → IsListOfAll c frames (result_of c frames)
    pub ends : Ends outside.files words.transcript outside.link_before outside.link_now frames (result_of c frames) answer

-- what the end of a run comes to, with what is told of its outcome
abbrev pub TellsEnd : Change (Option Held) → List ℕ → RunEnd → Outcome → Result (List ℕ) Status → Type 0
TellsEnd files name Ended outcome answer = Settles files name outcome answer
TellsEnd files name RunWaiting outcome answer = Settles files name outcome answer
TellsEnd files name RunLinkFault outcome answer = (answer ≡ Err LinkFault) × (files.now ≡ files.before)
TellsEnd files name RunFlooded outcome answer = (answer ≡ Err Flooded) × (files.now ≡ files.before)
TellsEnd files name RunOutOfMemory outcome answer = (answer ≡ Err OutOfMemory) × (files.now ≡ files.before)
