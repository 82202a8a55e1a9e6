-- Reading a transcript from left to right: what it says, or the first check of the form that it fails.
use Rattle.std.specs.Prelude.{◌≡◌, ◌↔◌, ℕ, List, length, not, ◌==◌, Option, Some, None, Result, Ok}
use Rattle.std.specs.Option.{ok_or, option_map}
use Rattle.std.specs.Int.{w8, w32, w64}
use Rattle.wire_core.specs.declared.cursor.Short.{Short}
use Rattle.wire_core.specs.Bytes.{IsBytes}
use Rattle.wire_core.specs.Reading.{Reading, reading_of, ◌>>=◌, fault_as, unless, bytes_at, number_at, repeated}
use Rattle.phase_message.specs.Shape.{Shape, IsShape}
use Rattle.phase_message.specs.Stages.{is_member}
use Rattle.transcript_form.specs.declared.accusation.Accusation.{Accusation}
use Rattle.transcript_form.specs.declared.claim.Claim.{Claim}
use Rattle.transcript_form.specs.declared.claim.Claim.TheVariants.{Pad}
use Rattle.transcript_form.specs.declared.refusal.FailedForm.{FailedForm}
use Rattle.transcript_form.specs.declared.refusal.FailedForm.TheVariants.{Magic, Form, Count}
use Rattle.transcript_form.specs.declared.transcript.Transcript.{Transcript}
use Rattle.transcript_form.specs.Accusation.{accusation_of}
use Rattle.transcript_form.specs.Claim.{claim_of, claim_posts}
use Rattle.wire_core.specs.Answers.{value_unless}
use Rattle.wire_core.specs.Places.{first_unlike}
use Rattle.transcript_form.specs.Transcript.{transcript_magic, IsTranscript, transcript_spelling}

-- what a field of so many bytes in all holds, or that the form fails at their number, where it is cut
abbrev pub or_cut : {A : Type 0} → ℕ → Result A Short → Result A FailedForm
or_cut size read = fault_as (λ (short : Short). Form size) read

-- where a reading stands behind the magic
unfoldable pub behind_magic : List ℕ → Result Reading FailedForm
behind_magic bytes = do
  begins ← value_unless (option_map (λ at. Magic at) (first_unlike transcript_magic bytes)) (reading_of bytes)
  magic ← or_cut (length bytes) (bytes_at 5 begins)
  Ok magic.1

-- the claim, whose byte is one of 1 to 6
unfoldable pub claim_at : ℕ → Reading → Result (Claim × Reading) FailedForm
claim_at size before = do
  number ← or_cut size (number_at w8 before)
  claim ← ok_or (claim_of number.0) (Form before.place)
  Ok (claim, number.1)

-- the claim of a transcript's bytes, whatever follows it
unfoldable pub claim_read : List ℕ → Result Claim FailedForm
claim_read bytes = do
  begins ← behind_magic bytes
  claim ← claim_at (length bytes) begins
  Ok claim.0

-- the accused, whose byte is the number of a member
unfoldable pub accused_at : Shape → ℕ → Reading → Result (ℕ × Reading) FailedForm
accused_at shape size before = do
  accused ← or_cut size (number_at w8 before)
  unless (not (is_member shape.members accused.0)) (Form before.place) accused

-- the accusation, which stands there for the claim of a pad alone
unfoldable pub detail_at : Claim → ℕ → Reading → Result (Option Accusation × Reading) FailedForm
detail_at Pad size before = do
  bytes ← or_cut size (bytes_at 34 before)
  Ok (accusation_of bytes.0, bytes.1)
detail_at claim size before = Ok (None, before)

-- the number of posts, which is the one that is wanted
unfoldable pub count_at : ℕ → ℕ → Reading → Result (ℕ × Reading) FailedForm
count_at wanted size before = do
  count ← or_cut size (number_at w32 before)
  unless (not (count.0 == wanted)) (Count before.place) count

-- what stands before the posts, without their number
pub record Head : Type 0 where
  pub claim : Claim
  pub accused : ℕ
  pub round : ℕ
  pub detail : Option Accusation

unfoldable pub head_at : Shape → ℕ → Reading → Result (Head × Reading) FailedForm
head_at shape size before = do
  claim ← claim_at size before
  accused ← accused_at shape size claim.1
  round ← or_cut size (number_at w64 accused.1)
  detail ← detail_at claim.0 size round.1
  count ← count_at (claim_posts shape claim.0) size detail.1
  Ok (record { claim = claim.0; accused = accused.0; round = round.0; detail = detail.0 }, count.1)

-- a listed post: its length in four bytes, and its bytes
unfoldable pub listed_at : ℕ → Reading → Result (List ℕ × Reading) FailedForm
listed_at size before = do
  n ← or_cut size (number_at w32 before)
  or_cut size (bytes_at n.0 n.1)

-- a head with its posts
abbrev pub transcript_of : Head → List (List ℕ) → Transcript
transcript_of head posts = record {
  claim = head.claim;
  accused = head.accused;
  round = head.round;
  detail = head.detail;
  posts = posts;
}

-- the transcript that bytes spell for a group of a shape, or the first check of the form that they fail
unfoldable pub transcript_read : Shape → List ℕ → Result Transcript FailedForm
transcript_read shape bytes = do
  begins ← behind_magic bytes
  head ← head_at shape (length bytes) begins
  posts ← repeated (claim_posts shape head.0.claim) (listed_at (length bytes)) head.1
  unless (not (length posts.1.rest == 0)) (Form posts.1.place) (transcript_of head.0 posts.0)

-- bytes that spell a transcript pass the checks of the form and are read as it, and others fail one
abbrev pub ListedExactly : Type 0
ListedExactly = (shape : Shape) (bytes : List ℕ) (t : Transcript)
    → IsShape shape.version shape.members → IsBytes bytes
    → (transcript_read shape bytes ≡ Ok t) ↔ (IsTranscript shape t × (bytes ≡ transcript_spelling t))
