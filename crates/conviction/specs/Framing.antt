-- Nobody honest is framed: nothing convicts the member of an honest run, whoever wrote the transcript.
use Rattle.std.specs.Prelude.{◌≡◌, ℕ, List, Contains}
use Rattle.wire_core.specs.Bytes.{IsBytes}
use Rattle.phase_message.specs.declared.header.Header.{Header}
use Rattle.group_roster.specs.Roster.{Roster, shape_of_roster}
use Rattle.signed_post.specs.Admission.{Says}
use Rattle.transcript_form.specs.declared.claim.Claim.{Claim}
use Rattle.transcript_form.specs.declared.transcript.Transcript.{Transcript}
use Rattle.transcript_form.specs.Transcript.{IsTranscript, transcript_spelling}
use Rattle.round_spec.specs.Premises.{NoneCollide}
use Rattle.round_spec.specs.Rows.{IsRunOf}
use Rattle.round_spec.specs.Runs.{AreHonest, HasNumber, HonestRun, NoForgery, Run, SaidBy, sent}
use Rattle.conviction.specs.Accepts.{Accepts}

-- ---- premises

-- what the transcript of these bytes lists of a member in its round was said by runs of the member
abbrev pub ListsSaid : Roster → List ℕ → List Run → ℕ → Type 0
ListsSaid roster bytes runs number = (t : Transcript) → IsTranscript (shape_of_roster roster) t →
    bytes ≡ transcript_spelling t → SaidBy roster runs number t.round t.posts

-- no signature was forged among the posts that the transcript of these bytes lists
abbrev pub ListsNoForgery : Roster → List ℕ → List Run → Type 0
ListsNoForgery roster bytes runs = (t : Transcript) → IsTranscript (shape_of_roster roster) t →
    bytes ≡ transcript_spelling t → NoForgery roster t.posts runs

-- ---- the run of an accused

-- each post of a list that says something for a member in a round says what this run sent
abbrev pub AllSent : Roster → ℕ → List (List ℕ) → ℕ → Run → Type 0
AllSent roster round posts number run = (bytes content : List ℕ) (header : Header) → Contains posts bytes →
    Says roster round bytes content header → header.sender ≡ number → Contains (sent run) content

-- a member that said one of the listed posts of a round has one run in this round, which sent all that is listed of it
abbrev pub TheRun : Type 0
TheRun = (roster : Roster) (runs : List Run) (number round : ℕ) (posts : List (List ℕ)) (bytes content : List ℕ)
    (header : Header) →
    AreHonest roster runs → SaidBy roster runs number round posts →
    Contains posts bytes → Says roster round bytes content header → header.sender ≡ number →
    (run : Run) × IsRunOf runs number round run × AllSent roster round posts number run

-- one honest run of the accused, in the round of a transcript, sent all that is listed of it
pub record OneRun (t : Transcript) (run : Run) : Type 0 where
  pub honest : HonestRun run
  pub number : run.config.number ≡ t.accused
  pub round : run.config.round ≡ t.round
  pub sent_all : AllSent run.config.roster t.round t.posts t.accused run

-- ---- claim by claim

-- the posts of a transcript do not show this of a member whose listed posts were said by its honest runs; nothing is
-- asked of hashes
abbrev pub NotShown : (Roster → Transcript → Type 0) → Type 0
NotShown shows = (roster : Roster) (runs : List Run) (t : Transcript) → AreHonest roster runs →
    SaidBy roster runs t.accused t.round t.posts → shows roster t → ⊥

-- the same where no two of the runs' and of the transcript's strings have one hash
abbrev pub NotShownUnlessCollide : (Roster → Transcript → Type 0) → Type 0
NotShownUnlessCollide shows = (roster : Roster) (runs : List Run) (t : Transcript) → AreHonest roster runs →
    IsTranscript (shape_of_roster roster) t → IsBytes (transcript_spelling t) →
    NoneCollide roster runs (transcript_spelling t) → SaidBy roster runs t.accused t.round t.posts → shows roster t → ⊥

-- ---- whole

-- no honest runs said what these bytes list of a member, unless two of the strings of the runs and of the bytes have one
-- hash
abbrev pub NoRunsSaid : Roster → List ℕ → ℕ → Type 0
NoRunsSaid roster bytes member = (runs : List Run) → AreHonest roster runs → NoneCollide roster runs bytes →
    ListsSaid roster bytes runs member → ⊥

-- no list of honest runs has a run of a member, unless a signature was forged among the posts that these bytes list, or
-- two of the strings of the runs and of the bytes have one hash
abbrev pub HasNoHonestRun : Roster → List ℕ → ℕ → Type 0
HasNoHonestRun roster bytes member = (runs : List Run) → AreHonest roster runs → NoneCollide roster runs bytes →
    ListsNoForgery roster bytes runs → HasNumber runs member → ⊥

-- whoever is convicted by bytes: no honest runs said what they list of it
abbrev pub NoFraming : Type 0
NoFraming = (roster : Roster) (bytes : List ℕ) (accused : ℕ) (claim : Claim) → IsBytes bytes →
    Accepts roster bytes accused claim → NoRunsSaid roster bytes accused

-- whoever is convicted by bytes is not honest: it has no honest run
abbrev pub NobodyHonestIsConvicted : Type 0
NobodyHonestIsConvicted = (roster : Roster) (bytes : List ℕ) (accused : ℕ) (claim : Claim) → IsBytes bytes →
    Accepts roster bytes accused claim → HasNoHonestRun roster bytes accused
