-- How long evidence is.
use Rattle.std.specs.Prelude.{◌≡◌, ℕ, ◌<◌, ◌≤◌, List, All, length}
use Rattle.wire_core.specs.Bytes.{IsBytes}
use Rattle.transcript_form.specs.declared.claim.Claim.TheVariants.{Replay}
use Rattle.transcript_form.specs.declared.transcript.Transcript.{Transcript}
use Rattle.transcript_form.specs.Transcript.{transcript_spelling}
use Rattle.round_spec.specs.Result.{Blamed, result_of}
use Rattle.round_spec.specs.Runs.{IsConfiguration}
use Rattle.round_spec.specs.Say.{Configuration}

-- whatever was delivered: the transcript of a round that ends by a conviction is below the limit of a transcript's file
abbrev pub EvidenceShort : Type 0
EvidenceShort = (c : Configuration) (delivered : List (List ℕ)) (t : Transcript) → IsConfiguration c → All IsBytes delivered →
    result_of c delivered ≡ Blamed t → length (transcript_spelling t) < 134217728

-- and where it is a replay, it has at most as many bytes as the closing posts of eight members that dispute at the end of
-- shuffle B
abbrev pub ReplayShort : Type 0
ReplayShort = (c : Configuration) (delivered : List (List ℕ)) (t : Transcript) → IsConfiguration c → All IsBytes delivered →
    result_of c delivered ≡ Blamed t → t.claim ≡ Replay → length (transcript_spelling t) ≤ 92394067
