-- Transcripts, and their spelling.
use Rattle.std.specs.Prelude.{◌≡◌, ◌↔◌, ℕ, ◌<◌, ◌^◌, List, [], ◌∷◌, ◌++◌, length, IsTrue, Option, Some, None, codes}
use Rattle.std.specs.List.{flat_map, AllByRecursion}
use Rattle.std.specs.Int.{w32, w64, to_be_bytes}
use Rattle.phase_message.specs.Grammar.{prefixed}
use Rattle.phase_message.specs.Shape.{Shape, IsShape}
use Rattle.phase_message.specs.Stages.{is_member}
use Rattle.transcript_form.specs.declared.accusation.Accusation.{Accusation}
use Rattle.transcript_form.specs.declared.claim.Claim.{Claim}
use Rattle.transcript_form.specs.declared.claim.Claim.TheVariants.{Pad}
use Rattle.transcript_form.specs.declared.transcript.Transcript.{Transcript}
use Rattle.transcript_form.specs.Accusation.{accusation_spelling, IsAccusation}
use Rattle.transcript_form.specs.Claim.{claim_number, claim_posts}

-- the text "DSTR" and version 1
abbrev pub transcript_magic : List ℕ
transcript_magic = codes "DSTR" ++ 1 ∷ []

-- the accusation of a transcript, where it has one
abbrev pub detail_spelling : Option Accusation → List ℕ
detail_spelling None = []
detail_spelling (Some accusation) = accusation_spelling accusation

-- what stands between the magic and the posts: the claim, the accused, the round, the accusation, and the
-- number of posts
abbrev pub head_spelling : Transcript → List ℕ
head_spelling t =
    (claim_number t.claim ∷ []) ++ ((t.accused ∷ []) ++ (to_be_bytes w64 t.round
    ++ (detail_spelling t.detail ++ to_be_bytes w32 (length t.posts))))

-- the bytes of a transcript: behind the head each post with its length before it
abbrev pub transcript_spelling : Transcript → List ℕ
transcript_spelling t = transcript_magic ++ (head_spelling t ++ flat_map prefixed t.posts)

-- the claim of a pad has an accusation, and no other has one
abbrev pub HasDetail : Claim → Option Accusation → Type 0
HasDetail Pad None = ⊥
HasDetail Pad (Some accusation) = IsAccusation accusation
HasDetail claim None = Unit {0}
HasDetail claim (Some accusation) = ⊥

-- what has a spelling, in a group of a shape: a member is accused, and there are as many posts as the claim
-- takes, whatever these are
pub record IsTranscript (shape : Shape) (t : Transcript) : Type 0 where
  pub accused : IsTrue (is_member shape.members t.accused)
  pub round : t.round < 2 ^ 64
  pub detail : HasDetail t.claim t.detail
  pub count : length t.posts ≡ claim_posts shape t.claim
  pub posts : AllByRecursion (λ post. length post < 2 ^ 32) t.posts

-- what has a spelling in a group of some shape
pub record IsTranscriptOfSome (t : Transcript) : Type 0 where
  pub shape : Shape
  pub is_shape : IsShape shape.version shape.members
  pub fits : IsTranscript shape t
