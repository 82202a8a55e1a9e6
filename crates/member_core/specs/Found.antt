-- What a delivery is to a member, and what it takes it for.
use Rattle.std.specs.Prelude.{◌≡◌, ℕ, ◌≤◌, ◌↔◌, List, [], ◌∷◌, true, false, ◌==◌, length, is_ok, Option, Some, None, Ok, if◌then◌else◌}
use Rattle.phase_message.specs.declared.header.Header.{Header}
use Rattle.phase_message.specs.declared.post.Post.{Post}
use Rattle.phase_message.specs.declared.post.TheConstants.{POST_LIMIT}
use Rattle.phase_message.specs.declared.stage.Slot.{Slot}
use Rattle.phase_message.specs.Offence.{content_read}
use Rattle.phase_message.specs.Post.{post_spelling}
use Rattle.phase_message.specs.Shape.{Shape}
use Rattle.phase_message.specs.Stages.{is_slot, shape_of}
use Rattle.group_roster.specs.Roster.{Roster}
use Rattle.signed_post.specs.Admission.{framed_admission_of}
use Rattle.signed_post.specs.Frame.{frame_of}
use Rattle.stage_log.specs.Table.{IsKept, Log, kept_in}
use Rattle.go_nogo.specs.Stands.{StandsIn}
use Rattle.transcript_form.specs.declared.claim.Claim.TheVariants.{Equivocation, Malformed as Outside}
use Rattle.round_spec.specs.Embedded.{slot_named}
use Rattle.round_spec.specs.Say.{Configuration}
use Rattle.round_spec.specs.Verdict.{Verdict, conviction}
use Rattle.closing_verdict.specs.declared.convicting.Conviction.{Conviction}
use Rattle.closing_verdict.specs.Convicting.{TellsConviction}
use Rattle.member_spec.specs.declared.taken.Taken.{Taken}
use Rattle.member_spec.specs.declared.taken.Taken.TheVariants.{Evidence, Finished, Stored}
use Rattle.member_spec.specs.Actor.{actor_after, actor_behind_delivery}
use Rattle.member_spec.specs.Replies.{Replies}
use Rattle.member_spec.specs.Taking.{answer_to, is_content}
use Rattle.member_parts.specs.declared.ending.Ending.{Ending}
use Rattle.member_parts.specs.declared.ending.Ending.TheVariants.{Blamed}
use Rattle.member_parts.specs.declared.finding.Found.{Found}
use Rattle.member_parts.specs.declared.finding.Found.TheVariants.{New, Same, Other, Malformed}
use Rattle.member_parts.specs.Endings.{HasBlamed}
use Rattle.member_parts.specs.Finding.{found_of}
use Rattle.member_core.specs.declared.machine.Machine.{Machine}
use Rattle.member_core.specs.Concluding.{machine_ended}
use Rattle.member_core.specs.Membership.{Holdings}
use Rattle.member_core.specs.Stands.{StandsFor}

-- ---- what it is

-- bytes are a post of another member of the group, in the round, that passes the checks before its body
pub record IsOfAnother (roster : Roster) (round number : ℕ) (bytes : List ℕ) (header : Header) (post : Post) : Type 0 where
  pub framed : frame_of bytes ≡ Ok post
  pub admitted : framed_admission_of roster round post ≡ Ok header
  pub other : (header.sender == number) ≡ false

-- what a content is to what a member keeps
abbrev pub found_in : Machine → Header → List ℕ → Found
found_in m header content = found_of (shape_of m.seat.shape) (kept_in m.log (slot_named header)) content

-- ---- what is kept

-- an empty slot of another than a member
pub record IsOthers (log : Log) (number : ℕ) (slot : Slot) : Type 0 where
  pub speaks : is_slot log.shape slot.stage slot.sender ≡ true
  pub other : slot.sender ≡ number → ⊥
  pub empty : kept_in log slot ≡ None

-- a post that can be kept there
pub record IsStorable (m : Machine) (slot : Slot) (post : Post) : Type 0 where
  pub others : IsOthers m.log m.seat.number slot
  pub kept : IsKept post.content
  pub stands : StandsIn m.log.shape slot post.content
  pub short : length (post_spelling post) ≤ POST_LIMIT

-- ---- what it shows

-- a member has come to blame somebody by a verdict, which ends its round
pub record BlamesBy (verdict : Verdict) (old new : Machine) : Type 0 where
  pub shown : Conviction
  pub told : TellsConviction verdict shown
  pub ended : new ≡ machine_ended old (Blamed shown)

-- ---- how it is answered

-- where a post is kept: evidence, if the member blames somebody behind it
abbrev pub answer_behind : Ending → Taken
answer_behind (Blamed conviction) = Evidence
answer_behind ending = Stored

-- an answer in an open round is evidence exactly where the member blames somebody behind it, and never that the round had
-- ended
pub record TellsEnding (taken : Taken) (ending : Ending) : Type 0 where
  pub evidence : (taken ≡ Evidence) ↔ HasBlamed ending
  pub going : taken ≡ Finished → ⊥

-- a member stands for what becomes of the pure machine with a string, and the answer is that of the pure machine
pub record TakesAs (now start : Replies) (c : Configuration) (delivered : List (List ℕ)) (bytes : List ℕ) (h : Holdings) (taken : Taken) :
    Type 0 where
  pub stands : StandsFor now start c (actor_behind_delivery start c (actor_after start c delivered) bytes) h
  pub answer : taken ≡ answer_to start c (actor_after start c delivered) bytes
