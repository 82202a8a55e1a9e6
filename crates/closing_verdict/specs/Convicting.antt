-- What is written down against a member.
use Rattle.std.specs.Prelude.{◌≡◌, ℕ, List}
use Rattle.transcript_form.specs.declared.transcript.Transcript.{Transcript}
use Rattle.transcript_form.specs.Transcript.{IsTranscriptOfSome, transcript_spelling}
use Rattle.round_spec.specs.Verdict.{Verdict, Goes, Done, Convicts}
use Rattle.closing_verdict.specs.declared.convicting.Charge.{Charge}
use Rattle.closing_verdict.specs.declared.convicting.Conviction.{Conviction}

-- the transcript that lists these posts for a charge
abbrev pub transcript_of : Charge → List (List ℕ) → Transcript
transcript_of charge posts =
    record { claim = charge.claim; accused = charge.accused; round = charge.round; detail = charge.detail; posts = posts }

-- a charge and posts make a transcript in a group of some shape
abbrev pub IsCharge : Charge → List (List ℕ) → Type 0
IsCharge charge posts = IsTranscriptOfSome (transcript_of charge posts)

-- a conviction has the accused and the claim of a transcript, and its bytes
pub record IsConvictionBy (t : Transcript) (conviction : Conviction) : Type 0 where
  pub accused_is : conviction.accused ≡ t.accused
  pub claim_is : conviction.claim ≡ t.claim
  pub bytes_are : conviction.transcript ≡ transcript_spelling t

-- a conviction tells a verdict that convicts
abbrev pub TellsConviction : Verdict → Conviction → Type 0
TellsConviction (Convicts t) conviction = IsConvictionBy t conviction
TellsConviction Goes conviction = ⊥
TellsConviction Done conviction = ⊥
