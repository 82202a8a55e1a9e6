-- How a member answers a delivery.
use Rattle.std.specs.Prelude.{◌≡◌, List, ℕ, Bool, false, ◌==◌, bytes_eq, Option, Some, None, Result, Ok, Err, unwrap_or, if◌then◌else◌}
use Rattle.phase_message.specs.declared.header.Header.{Header}
use Rattle.phase_message.specs.declared.post.Post.{Post}
use Rattle.signed_post.specs.declared.post.PostRefusal.{PostRefusal}
use Rattle.signed_post.specs.Admission.{admission_of_bytes}
use Rattle.stage_log.specs.Table.{Log, kept_in}
use Rattle.round_spec.specs.Embedded.{slot_named}
use Rattle.round_spec.specs.Say.{Configuration}
use Rattle.round_spec.specs.Verdict.{Verdict, Goes, Done, Convicts}
use Rattle.round_spec.specs.Course.{is_open}
use Rattle.member_spec.specs.declared.taken.Taken.{Taken}
use Rattle.member_spec.specs.declared.taken.Taken.TheVariants.{Stored, Same, Own, Ignored, Evidence, Finished}
use Rattle.member_spec.specs.Actor.{Actor, actor_after, actor_behind_delivery}
use Rattle.member_spec.specs.Replies.{Replies}

-- it says whose post it already has: its own, or one whose slot holds this content
abbrev pub is_content : List ℕ → Option Post → Bool
is_content content None = false
is_content content (Some kept) = bytes_eq kept.content content

-- what is answered where no step follows: a refusal by one of the seven checks before the body, a post of the member
-- itself, or a content that is kept already
abbrev pub idle_answer : Configuration → Log → Result (Header × List ℕ) PostRefusal → Option Taken
idle_answer c log (Err refusal) = Some (Ignored refusal)
idle_answer c log (Ok said) =
    if said.0.sender == c.number then Some Own
    else (if is_content said.1 (kept_in log (slot_named said.0)) then Some Same else None)

-- what is answered by the round's end behind the step: evidence where it has come to a conviction
abbrev pub answer_by_end : Verdict → Taken
answer_by_end (Convicts transcript) = Evidence
answer_by_end Done = Stored
answer_by_end Goes = Stored

-- the answer to a delivery: that the round had ended; else the first that holds of a refusal, an own post, a content
-- that is kept already, and evidence; else that it was stored
unfoldable pub answer_to : Replies → Configuration → Actor → List ℕ → Taken
answer_to replies c a bytes =
    if is_open a.ending
    then unwrap_or (idle_answer c a.log (admission_of_bytes c.roster c.round bytes))
    (answer_by_end (actor_behind_delivery replies c a bytes).ending)
    else Finished

-- an answer that tells that the delivery changed nothing
abbrev pub LeavesAll : Taken → Type 0
LeavesAll Same = Unit {0}
LeavesAll Own = Unit {0}
LeavesAll (Ignored refusal) = Unit {0}
LeavesAll Finished = Unit {0}
LeavesAll _ = ⊥

-- such a delivery leaves the member as it was
abbrev pub IdleLeavesAll : Type 0
IdleLeavesAll = (replies : Replies) (c : Configuration) (delivered : List (List ℕ)) (bytes : List ℕ) →
    let a = actor_after replies c delivered in LeavesAll (answer_to replies c a bytes) → actor_behind_delivery replies c a bytes ≡ a
