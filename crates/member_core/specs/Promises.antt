-- What a member of a plain conduct promises of its round, in the words of the laws of rounds.
use Rattle.std.specs.Prelude.{◌≡◌, ℕ, ◌<◌, ◌≤◌, List, Some, length}
use Rattle.wire_core.specs.Bytes.{IsBytes}
use Rattle.lms_tree.specs.Secret.{own_public}
use Rattle.group_roster.specs.Roster.{key_of}
use Rattle.transcript_form.specs.declared.claim.Claim.{Claim}
use Rattle.transcript_form.specs.declared.claim.Claim.TheVariants.{Replay}
use Rattle.transcript_form.specs.declared.transcript.Transcript.{Transcript}
use Rattle.transcript_form.specs.Transcript.{transcript_spelling}
use Rattle.bulk_descriptor.specs.declared.slot_state.SlotState.{SlotState}
use Rattle.round_spec.specs.Premises.{NoRunsCollide, NoneCollide}
use Rattle.round_spec.specs.Result.{Blamed as BlamedBy, DoneWith, log_after, result_of}
use Rattle.round_spec.specs.Runs.{HonestRun, IsFaulty, Run, posts_said, run_after}
use Rattle.round_spec.specs.Say.{Configuration}
use Rattle.conviction.specs.Accepts.{Accepts}
use Rattle.accountability.specs.AllHonest.{AllDelivered, AllHaveRuns}
use Rattle.accountability.specs.Faulty.{IsAmong}
use Rattle.accountability.specs.Messages.{HasEachMessage}
use Rattle.accountability.specs.Naming.{NamesMissed}
use Rattle.accountability.specs.SameList.{IsOther}
use Rattle.member_spec.specs.declared.state.State.{State}
use Rattle.member_spec.specs.declared.state.State.TheVariants.{Waiting, Done, Blamed, Stopped}
use Rattle.member_spec.specs.Outcomes.{bits_of}
use Rattle.member_spec.specs.Plain.{EndsOnce, KeepsAtMost}
use Rattle.member_spec.specs.Replies.{IsPlain, Replies}
use Rattle.member_core.specs.Membership.{Holdings, Membership, posts_made}
use Rattle.member_core.specs.Stands.{Stands}

-- a member is plain: its conduct was plain at the start, and it stands for what it entered with and for these byte strings
pub record IsPlainMember {A : Type 0} (replies_of : A → Replies) (c : Configuration) (delivered : List (List ℕ)) (m : Membership A) : Type 0
  where
    pub start : Replies
    pub plain : IsPlain start
    pub stands : Stands replies_of start c delivered m

-- the roster has its key under its number
abbrev pub HasRosterKey : Configuration → Type 0
HasRosterKey c = key_of c.roster c.number ≡ Some (own_public c.key)

-- ---- the three ends

-- it waits at a stage, and the bits are those of the members that are missed there
pub record WaitsForMissed (c : Configuration) (delivered : List (List ℕ)) (stage bits : ℕ) : Type 0 where
  pub named : List ℕ
  pub bits_are : bits ≡ bits_of named
  pub names : NamesMissed c delivered stage named

-- among any honest runs slots hold the message of each of them that is of the round, exactly, at distinct places; where no
-- signature of these runs was forged in what was delivered, and no two strings of theirs have one hash
abbrev pub HoldsMessages : Configuration → List (List ℕ) → List SlotState → Type 0
HoldsMessages c delivered slots = (runs : List Run) → IsAmong c delivered runs → NoRunsCollide runs → HasEachMessage runs c.round slots

-- bytes convict the accused of a claim, and fit a transcript's file; among any honest runs the accused has none of the
-- round, where no signature of these was forged in what was delivered, and no two strings of theirs and of the bytes have
-- one hash
pub record ConvictsFaulty (c : Configuration) (delivered : List (List ℕ)) (bytes : List ℕ) (accused : ℕ) (claim : Claim) : Type 0 where
  pub accepts : Accepts c.roster bytes accused claim
  pub faulty : (runs : List Run) → IsAmong c delivered runs → NoneCollide c.roster runs bytes → IsFaulty runs c.round accused
  pub are_bytes : IsBytes bytes
  pub short : length bytes < 134217728
  pub replay : claim ≡ Replay → length bytes ≤ 92394067

-- a state keeps the promise of its end: who is missed, each honest message, or evidence against a faulty member
abbrev pub KeepsPromise : Configuration → List (List ℕ) → State → Type 0
KeepsPromise c delivered (Waiting stage bits) = WaitsForMissed c delivered stage bits
KeepsPromise c delivered Done =
    (slots : List SlotState) × (result_of c delivered ≡ DoneWith slots) × HoldsMessages c delivered slots
KeepsPromise c delivered (Blamed accused claim) =
    (t : Transcript) × (result_of c delivered ≡ BlamedBy t) × ConvictsFaulty c delivered (transcript_spelling t) accused claim
KeepsPromise c delivered Stopped = ⊥

-- a state that waits does so for those that are missed, whatever key the member signs with
abbrev pub WaitsIfOpen : Configuration → List (List ℕ) → State → Type 0
WaitsIfOpen c delivered (Waiting stage bits) = WaitsForMissed c delivered stage bits
WaitsIfOpen c delivered state = Unit {0}

-- the evidence of a state that blames somebody convicts the one that it blames
pub record IsEvidence (c : Configuration) (delivered : List (List ℕ)) (state : State) (bytes : List ℕ) : Type 0 where
  pub accused : ℕ
  pub claim : Claim
  pub blames : state ≡ Blamed accused claim
  pub convicts : ConvictsFaulty c delivered bytes accused claim

-- ---- rounds with others

-- all members have runs of the round, and each post of the others up to the closed checks was delivered
pub record IsAllHonest (c : Configuration) (delivered : List (List ℕ)) (runs : List Run) : Type 0 where
  pub among : IsAmong c delivered runs
  pub distinct : NoRunsCollide runs
  pub all : AllHaveRuns c runs
  pub heard : AllDelivered c delivered

-- slots are those of each other member of the round that is done, whoever is faulty
abbrev pub IsOneList : Configuration → List (List ℕ) → List SlotState → Type 0
IsOneList c delivered slots = (other : Configuration) (others_delivered : List (List ℕ)) (runs : List Run) (others_slots : List SlotState) →
    IsAmong c delivered runs → IsOther c other others_delivered runs → NoRunsCollide runs →
    result_of other others_delivered ≡ DoneWith others_slots → slots ≡ others_slots

-- ---- the run

-- what a plain member keeps and has made is the run of its deliveries, with the posts that it said there; at most one post
-- ends a shuffle; the log has room; and the run is honest, where its key is the roster's
pub record KeepsRun (c : Configuration) (delivered : List (List ℕ)) (h : Holdings) : Type 0 where
  pub log : h.log ≡ log_after c delivered
  pub said : posts_made h ≡ posts_said (run_after c delivered)
  pub ends : (shuffle : ℕ) → EndsOnce c (posts_made h) shuffle
  pub room : KeepsAtMost c h.log
  pub honest : HasRosterKey c → HonestRun (run_after c delivered)
