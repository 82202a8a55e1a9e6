-- What a list of delivered byte strings comes to for one member.
use Rattle.std.specs.Prelude.{ℕ, suc, ◌-◌, List, [], ◌∷◌, map, take, length, filter, Bool, not, ◌&&◌, ◌==◌, is_none, is_ok, Option, Some, None, Result, bytes_eq, option_map, option_and_then, slice_get, if◌then◌else◌}
use Rattle.std.specs.Option.{option_map_or}
use Rattle.std.specs.Result.{result_ok}
use Rattle.wire_core.specs.Answers.{first_below, first_some}
use Rattle.phase_message.specs.declared.header.Header.{Header}
use Rattle.phase_message.specs.declared.post.Post.{Post}
use Rattle.phase_message.specs.declared.stage.Slot.{Slot}
use Rattle.phase_message.specs.declared.content.Content.{Content}
use Rattle.phase_message.specs.declared.offence.Offence.{Offence}
use Rattle.phase_message.specs.Offence.{content_read}
use Rattle.phase_message.specs.Post.{post_spelling}
use Rattle.phase_message.specs.Slots.{senders_in}
use Rattle.phase_message.specs.Stages.{kind_of_stage}
use Rattle.stage_log.specs.Log.{contents_of}
use Rattle.stage_log.specs.Table.{Log}
use Rattle.bulk_descriptor.specs.declared.slot_state.SlotState.{SlotState}
use Rattle.transcript_form.specs.declared.claim.Claim.TheVariants.{Equivocation, Malformed}
use Rattle.transcript_form.specs.declared.transcript.Transcript.{Transcript}
use Rattle.signed_post.specs.Frame.{frame_of}
use Rattle.signed_post.specs.Admission.{framed_admission_of}
use Rattle.round_spec.specs.Slots.{slots_of_past}
use Rattle.round_spec.specs.Say.{Configuration, shape_in}
use Rattle.round_spec.specs.Embedded.{names_slot, slot_named}
use Rattle.round_spec.specs.Verdict.{Verdict, Goes, Done, Convicts, conviction}
use Rattle.round_spec.specs.Course.{Others, Stand, course_of, is_open, own_posts, settled_log}

-- ---- what is heard

-- a post of another member that passes the seven checks before its body, for the round: its header, the post, and the
-- content that its body makes it, or how it offends
pub record Heard : Type 0 where
  pub header : Header
  pub post : Post
  pub content : Result Content Offence

-- what is heard of a post with this header; of one of its own a member hears nothing
abbrev pub heard_with : Configuration → Post → Header → Option Heard
heard_with c post header =
    if header.sender == c.number then None
    else Some (record { header = header; post = post; content = content_read (shape_in c) post.content })

-- what is heard of a post: nothing where a check before the body refuses it
abbrev pub heard_of_post : Configuration → Post → Option Heard
heard_of_post c post = option_and_then (heard_with c post) (result_ok (framed_admission_of c.roster c.round post))

-- what is heard of a delivered byte string
unfoldable pub heard_of : Configuration → List ℕ → Option Heard
heard_of c bytes = option_and_then (heard_of_post c) (result_ok (frame_of bytes))

-- the post that is heard, where it is of a slot and its body is in the grammar
abbrev pub heard_in : Slot → Heard → Option Post
heard_in slot heard =
    if names_slot slot heard.header && is_ok heard.content then Some heard.post else None

-- the post that a byte string gives a slot, if it gives it one
unfoldable pub post_given : Configuration → Slot → List ℕ → Option Post
post_given c slot bytes = option_and_then (heard_in slot) (heard_of c bytes)

-- the first post that is given for each slot
unfoldable pub first_posts : Configuration → List (List ℕ) → Others
first_posts c delivered slot = first_some (map (post_given c slot) delivered)

-- where a member stands after deliveries
abbrev pub stand_after : Configuration → List (List ℕ) → Stand
stand_after c delivered = course_of c (first_posts c delivered)

-- ---- what ends a list of deliveries

-- a body that is outside the grammar convicts its sender
abbrev pub malformed_conviction : Configuration → List ℕ → Heard → Option Verdict
malformed_conviction c bytes heard =
    if is_ok heard.content then None else Some (conviction c.round heard.header.sender Malformed (bytes ∷ []))

-- a post in the grammar whose slot was first given another content convicts its sender
abbrev pub contradiction_with : Configuration → List ℕ → Heard → Post → Option Verdict
contradiction_with c bytes heard first =
    if bytes_eq first.content heard.post.content then None
    else Some (conviction c.round heard.header.sender Equivocation (post_spelling first ∷ bytes ∷ []))

-- what is heard contradicts the first post of its slot, if its slot has one
abbrev pub contradiction : Configuration → Others → List ℕ → Heard → Option Verdict
contradiction c firsts bytes heard = option_and_then (contradiction_with c bytes heard) (firsts (slot_named heard.header))

-- what the last of some deliveries shows against its sender
abbrev pub fault_shown : Configuration → Others → List ℕ → Option Verdict
fault_shown c firsts bytes = option_and_then
    (λ heard. first_some (malformed_conviction c bytes heard ∷ contradiction c firsts bytes heard ∷ [])) (heard_of c bytes)

-- the last of a list
abbrev pub last_of : List (List ℕ) → Option (List ℕ)
last_of delivered = slice_get delivered (length delivered - 1)

-- a verdict that ends a round
abbrev pub ending_verdict : Verdict → Option Verdict
ending_verdict verdict = if is_open verdict then None else Some verdict

-- what ends deliveries, taken whole: their last string is malformed, or contradicts the first post of its slot, or the
-- course of the round has come to a verdict that ends it
unfoldable pub ending_of : Configuration → List (List ℕ) → Option Verdict
ending_of c delivered = first_some (
    option_and_then (fault_shown c (first_posts c delivered)) (last_of delivered)
    ∷ ending_verdict (stand_after c delivered).verdict
    ∷ [])

-- so many first deliveries with the verdict that ends them, if they end
abbrev pub ending_at : Configuration → List (List ℕ) → ℕ → Option (ℕ × Verdict)
ending_at c delivered count = option_map (λ verdict. (count, verdict)) (ending_of c (take count delivered))

-- the least number of first deliveries that end, with their verdict
unfoldable pub least_ending : Configuration → List (List ℕ) → Option (ℕ × Verdict)
least_ending c delivered = first_below (suc (length delivered)) (ending_at c delivered)

-- ---- the result

-- how a round stands for a member: it waits at a stage for the posts of these members; or it holds a transcript that
-- convicts; or it is done, with the slots of the list
pub data Outcome : Type 0 where
  Waiting : ℕ → List ℕ → Outcome
  Blamed : Transcript → Outcome
  DoneWith : List SlotState → Outcome

-- who speaks at a stage, in order
abbrev pub senders_at : Configuration → ℕ → List ℕ
senders_at c stage = option_map_or (senders_in (shape_in c)) (kind_of_stage (shape_in c) stage) []

-- whether a post of another member is missing at a stage
abbrev pub is_awaited : Configuration → Others → ℕ → ℕ → Bool
is_awaited c others stage sender =
    not (sender == c.number) && is_none (others (record { stage = stage; sender = sender }))

-- it waits for those whose posts are missing at the stage that is being filled
abbrev pub waiting_outcome : Configuration → Others → Stand → Outcome
waiting_outcome c others stand = Waiting stand.at (filter (is_awaited c others stand.at) (senders_at c stand.at))

-- what it comes to where a verdict ended it at a stand; no verdict that leaves the round open ends it
abbrev pub outcome_ended : Configuration → Stand → Verdict → Outcome
outcome_ended c stand Done = DoneWith (slots_of_past (shape_in c) (contents_of stand.past))
outcome_ended c stand (Convicts transcript) = Blamed transcript
outcome_ended c stand Goes = Waiting stand.at []

-- the outcome by the verdict that ends, if one does
abbrev pub outcome_by : Configuration → List (List ℕ) → Option (ℕ × Verdict) → Outcome
outcome_by c delivered None = waiting_outcome c (first_posts c delivered) (stand_after c delivered)
outcome_by c delivered (Some ending) = outcome_ended c (stand_after c (take ending.0 delivered)) ending.1

-- the result of deliveries: that of the least first part of them that ends, and of all of them where none does
unfoldable pub result_of : Configuration → List (List ℕ) → Outcome
result_of c delivered = outcome_by c delivered (least_ending c delivered)

-- the deliveries that count: the least first part that ends, and all of them where none does
abbrev pub counted_part : List (List ℕ) → Option (ℕ × Verdict) → List (List ℕ)
counted_part delivered None = delivered
counted_part delivered (Some ending) = take ending.0 delivered

-- those of a list of deliveries
abbrev pub delivered_counted : Configuration → List (List ℕ) → List (List ℕ)
delivered_counted c delivered = counted_part delivered (least_ending c delivered)

-- the log that a member keeps after deliveries
unfoldable pub log_after : Configuration → List (List ℕ) → Log
log_after c delivered = settled_log c (first_posts c (delivered_counted c delivered))

-- the posts that a member makes, by stage
unfoldable pub posts_of : Configuration → List (List ℕ) → List Post
posts_of c delivered = own_posts c (stand_after c (delivered_counted c delivered))
