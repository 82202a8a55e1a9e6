-- When a post is admitted, and the first check that refuses one.
use Rattle.std.specs.Prelude.{◌≡◌, ℕ, ◌↔◌, List, [], ◌∷◌, length, bytes_eq, ◌==◌, IsTrue, if◌then◌else◌, Option, Some, None, Result, Ok, Err}
use Rattle.wire_core.specs.declared.cursor.Short.{Short}
use Rattle.wire_core.specs.Bytes.{IsBytes}
use Rattle.wire_core.specs.Answers.{◌>>=◌, fault_as, first_some, fault_unless, value_unless}
use Rattle.phase_message.specs.declared.post.Post.{Post}
use Rattle.phase_message.specs.Post.{post_spelling}
use Rattle.phase_message.specs.declared.content.Content.{Content}
use Rattle.phase_message.specs.declared.header.Header.{Header}
use Rattle.phase_message.specs.Header.{header_of}
use Rattle.phase_message.specs.Offence.{content_read}
use Rattle.phase_message.specs.Stages.{is_member, is_slot}
use Rattle.lms_tree.specs.declared.keys.LmsPublic.{LmsPublic}
use Rattle.lms_tree.specs.declared.verifier.LmsRefusal.{LmsRefusal}
use Rattle.lms_tree.specs.Tree.{LmsValid, lms_check}
use Rattle.group_roster.specs.Roster.{Roster}
use Rattle.group_roster.specs.Roster.{roster_id, key_of, shape_of_roster}
use Rattle.signed_post.specs.declared.post.PostRefusal.{PostRefusal}
use Rattle.signed_post.specs.declared.post.PostRefusal.TheVariants.{Frame, Version, Group, Round, Sender, Stage, Signature, Body, Memory}
use Rattle.signed_post.specs.Frame.{FitsFrame, fits_frame, frame_of}

-- the refusal of a signature that is not valid
abbrev pub validity_refusal : Result (Unit {0}) LmsRefusal → Option PostRefusal
validity_refusal (Ok valid) = None
validity_refusal (Err refusal) = Some (Signature refusal)

-- what comes of a signature by the roster's key of the sender
abbrev pub signature_refusal : ℕ → Option LmsPublic → Post → Option PostRefusal
signature_refusal sender None post = Some (Sender sender)
signature_refusal sender (Some key) post = validity_refusal (lms_check key post.content post.signature)

-- the first refusal of a post with this header: of its version, group, round, sender, stage and
-- signature
abbrev pub header_refusal : Roster → ℕ → Post → Header → Option PostRefusal
header_refusal roster round post header = first_some (
    fault_unless (header.version == 1) (Version header.version)
    ∷ fault_unless (bytes_eq header.group (roster_id roster)) (Group header.group)
    ∷ fault_unless (header.round == round) (Round header.round)
    ∷ fault_unless (is_member (length roster.keys) header.sender) (Sender header.sender)
    ∷ fault_unless (is_slot (shape_of_roster roster) header.stage header.sender) (Stage header.stage)
    ∷ signature_refusal header.sender (key_of roster header.sender) post
    ∷ [])

-- the header of a post in the frame, or its first refusal
unfoldable pub framed_admission_of : Roster → ℕ → Post → Result Header PostRefusal
framed_admission_of roster round post =
    fault_as (λ (short : Short). Frame 0) (header_of post.content)
    >>= λ header. value_unless (header_refusal roster round post header) header

-- the header of a post, or the first of the seven checks that refuses it
abbrev pub admission_of : Roster → ℕ → Post → Result Header PostRefusal
admission_of roster round post =
    if fits_frame post then framed_admission_of roster round post else Err (Frame 0)

-- the header and the content of bytes that are an admitted post, or the first refusal
abbrev pub admission_of_bytes : Roster → ℕ → List ℕ → Result (Header × List ℕ) PostRefusal
admission_of_bytes roster round bytes = do
  post ← fault_as (λ at. Frame at) (frame_of bytes)
  header ← framed_admission_of roster round post
  Ok (header, post.content)

-- A post is admitted for a roster and a round: it has a frame, and its header names the version, the
-- group, the round, and a sender in a slot of the group, under whose key in the roster the signature is valid.
pub record Admitted (roster : Roster) (round : ℕ) (post : Post) (header : Header) : Type 0 where
  pub frame : FitsFrame post
  pub reads : header_of post.content ≡ Ok header
  pub version : header.version ≡ 1
  pub group : header.group ≡ roster_id roster
  pub this_round : header.round ≡ round
  pub member : IsTrue (is_member (length roster.keys) header.sender)
  pub slot : IsTrue (is_slot (shape_of_roster roster) header.stage header.sender)
  pub signed : (key : LmsPublic) × (key_of roster header.sender ≡ Some key)
      × LmsValid key post.content post.signature

-- a post is admitted exactly where no check refuses it, with the header that it has
abbrev pub AdmitsExactly : Type 0
AdmitsExactly = (roster : Roster) (round : ℕ) (post : Post) (header : Header) → IsBytes post.signature
    → (admission_of roster round post ≡ Ok header) ↔ Admitted roster round post header

-- bytes are a post of this content, which is admitted for the roster and the round with this header
pub record Says (roster : Roster) (round : ℕ) (bytes content : List ℕ) (header : Header) : Type 0 where
  pub signature : List ℕ
  pub spelled : bytes ≡ post_spelling (record { content = content; signature = signature })
  pub admitted : Admitted roster round (record { content = content; signature = signature }) header

-- bytes are a post that is admitted, and its content is one of the grammar for the group
pub record IsPostFile (roster : Roster) (round : ℕ) (bytes : List ℕ) (content : Content) : Type 0 where
  pub text : List ℕ
  pub says : Says roster round bytes text content.header
  pub reads : content_read (shape_of_roster roster) text ≡ Ok content

-- the content of an admitted post whose body is in the grammar, or the first of the eight checks that
-- refuses it
unfoldable pub check_of : Roster → ℕ → Post → Result Content PostRefusal
check_of roster round post = do
  header ← admission_of roster round post
  fault_as (λ offence. Body offence.at offence.rule) (content_read (shape_of_roster roster) post.content)

-- ---- what the code holds

-- the number of a refusal
abbrev pub refusal_number : PostRefusal → ℕ
refusal_number (Frame at) = 1
refusal_number (Version found) = 2
refusal_number (Group found) = 3
refusal_number (Round found) = 4
refusal_number (Sender found) = 5
refusal_number (Stage found) = 6
refusal_number (Signature refusal) = 7
refusal_number (Body at rule) = 8
refusal_number Memory = 9

-- the place that a refusal tells: that of the frame or the body, and else 0
abbrev pub refusal_place : PostRefusal → ℕ
refusal_place (Frame at) = at
refusal_place (Body at rule) = at
refusal_place refusal = 0
