-- What convicts whom it accuses: the transcript that is written where a round ends by a fault.
use Rattle.std.specs.Prelude.{◌≡◌, ℕ, ◌+◌, List, All, IsTrue, Some}
use Rattle.wire_core.specs.Bytes.{IsBytes}
use Rattle.phase_message.specs.declared.post.Post.{Post}
use Rattle.group_roster.specs.Roster.{Roster, shape_of_roster}
use Rattle.stage_log.specs.Log.{before}
use Rattle.transcript_form.specs.declared.transcript.Transcript.{Transcript}
use Rattle.transcript_form.specs.Transcript.{IsTranscript, transcript_spelling}
use Rattle.round_spec.specs.Course.{Others, closing_of}
use Rattle.round_spec.specs.Honesty.{OthersCheck}
use Rattle.round_spec.specs.Result.{Blamed, fault_shown, result_of}
use Rattle.round_spec.specs.Runs.{HonestRun, IsConfiguration, Run}
use Rattle.round_spec.specs.Say.{Configuration, shape_in}
use Rattle.round_spec.specs.Verdict.{ClosedStage, Convicts, Verdict, is_closing, verdict_of}
use Rattle.conviction.specs.Accepts.{Accepts}

-- a transcript has a spelling, and its bytes convict the member that it accuses, by its claim
pub record IsAccepted (roster : Roster) (t : Transcript) : Type 0 where
  pub form : IsTranscript (shape_of_roster roster) t
  pub accepts : Accepts roster (transcript_spelling t) t.accused t.claim

-- ---- by a closing stage

-- these are the posts that an honest run kept to the end of a closing stage
pub record IsKeptEnd (run : Run) (stage : ℕ) (posts : List Post) : Type 0 where
  pub honest : HonestRun run
  pub closing : IsTrue (is_closing (shape_in run.config) stage)
  pub kept : before run.log (stage + 1) ≡ Some posts

-- a verdict that comes of them for this reason convicts by a transcript that is accepted
abbrev pub AcceptedFor : (ClosedStage → Verdict → Type 0) → Type 0
AcceptedFor reason = (run : Run) (stage : ℕ) (posts : List Post) (t : Transcript) → IsKeptEnd run stage posts →
    reason (closing_of run.config posts stage) (Convicts t) → IsAccepted run.config.roster t

-- so does every verdict that convicts
abbrev pub VerdictAccepted : Type 0
VerdictAccepted = AcceptedFor (λ v verdict. verdict_of v ≡ verdict)

-- ---- by a delivered string

-- what a delivered string shows, malformed or another content than the first post of its slot, is accepted
abbrev pub FaultAccepted : Type 0
FaultAccepted = (c : Configuration) (firsts : Others) (bytes : List ℕ) (t : Transcript) → IsConfiguration c → OthersCheck c firsts →
    IsBytes bytes → fault_shown c firsts bytes ≡ Some (Convicts t) → IsAccepted c.roster t

-- ---- whole

-- whatever was delivered: where the round ends by a conviction, its transcript is accepted
abbrev pub EvidenceAccepted : Type 0
EvidenceAccepted = (c : Configuration) (delivered : List (List ℕ)) (t : Transcript) → IsConfiguration c → All IsBytes delivered →
    result_of c delivered ≡ Blamed t → IsAccepted c.roster t

-- and it is bytes
abbrev pub EvidenceIsBytes : Type 0
EvidenceIsBytes = (c : Configuration) (delivered : List (List ℕ)) (t : Transcript) → IsConfiguration c → All IsBytes delivered →
    result_of c delivered ≡ Blamed t → IsBytes (transcript_spelling t)
