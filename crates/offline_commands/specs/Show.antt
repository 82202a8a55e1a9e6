-- What `show` tells of a post file.
use Rattle.std.specs.Prelude.{ℕ, List, [], ◌∷◌, Option, Some, None, Result, codes, decimal}
use Rattle.hex.specs.Hex.{encode_lower}
use Rattle.wire_core.specs.Answers.{◌>>=◌, fault_as}
use Rattle.phase_message.specs.declared.content.Body.{Body}
use Rattle.phase_message.specs.declared.content.Body.TheVariants.{Keys, Submit, Shuffled, Abort, Go, Reveal, Dispute, Pads, Check, Confirm, Differ}
use Rattle.phase_message.specs.declared.content.Content.{Content}
use Rattle.group_roster.specs.Roster.{Roster}
use Rattle.signed_post.specs.declared.post.PostRefusal.{PostRefusal}
use Rattle.signed_post.specs.declared.post.PostRefusal.TheVariants.{Frame, Memory}
use Rattle.transcript_form.specs.Refusals.{Failure}
use Rattle.signed_post.specs.Frame.{frame_of}
use Rattle.signed_post.specs.Admission.{check_of, refusal_number, refusal_place}
use Rattle.group_report.specs.Report.{line_of}

-- ---- the check of a file

-- a file has one post, and a refusal of it is told by its number and its place
abbrev pub failed_check : PostRefusal → Failure
failed_check refusal = record { check = refusal_number refusal; post = 1; at = refusal_place refusal }

-- the content of the post that bytes spell for a round, or the first check that refuses them
unfoldable pub file_checked : ℕ → Roster → List ℕ → Result Content Failure
file_checked round roster bytes =
    fault_as failed_check (fault_as (λ at. Frame at) (frame_of bytes) >>= λ post. check_of roster round post)

-- which refusals are told; want of memory tells none
abbrev pub failure_told : PostRefusal → Option Failure
failure_told Memory = None
failure_told refusal = Some (failed_check refusal)

-- ---- what is printed

-- the name of a body's kind
abbrev pub kind_name : Body → List ℕ
kind_name (Keys keys) = codes "Keys"
kind_name (Submit ciphertext) = codes "Submit"
kind_name (Shuffled entries) = codes "Shuffled"
kind_name Abort = codes "Abort"
kind_name (Go flag) = codes "Go"
kind_name (Reveal votes seed) = codes "Reveal"
kind_name (Dispute posts outer_seed outer_opening) = codes "Dispute"
kind_name (Pads pads) = codes "Pads"
kind_name (Check flag) = codes "Check"
kind_name (Confirm votes) = codes "Confirm"
kind_name (Differ posts) = codes "Differ"

-- the output of `show`
abbrev pub shown_line : Content → List ℕ
shown_line content = line_of (
    codes "stage " ∷ decimal content.header.stage
    ∷ codes " sender " ∷ decimal content.header.sender
    ∷ codes " kind " ∷ kind_name content.body
    ∷ codes " view " ∷ encode_lower content.header.view
    ∷ [])
