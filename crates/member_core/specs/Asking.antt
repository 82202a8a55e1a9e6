-- A member that is asked at a stage: what it has to say there, and where it stands while it is being asked.
use Rattle.std.specs.Prelude.{◌≡◌, ◌+◌, ◌≤◌, length, Some, IsTrue}
use Rattle.phase_message.specs.declared.content.Body.{Body}
use Rattle.phase_message.specs.declared.content.Content.{Content}
use Rattle.phase_message.specs.declared.post.TheConstants.{LEAST_CONTENT}
use Rattle.phase_message.specs.declared.stage.StageKind.{StageKind}
use Rattle.phase_message.specs.declared.stage.StageKind.TheVariants.{Final, Submit}
use Rattle.phase_message.specs.Grammar.{IsBody, body_text}
use Rattle.phase_message.specs.Stages.{is_slot}
use Rattle.stage_log.specs.Log.{view_of}
use Rattle.shuffle_blame.specs.Asked.{past_of}
use Rattle.round_spec.specs.Say.{Configuration, own_body_at}
use Rattle.honest_say.specs.Seats.{header_at}
use Rattle.member_spec.specs.declared.mood.Mood.{Mood}
use Rattle.member_spec.specs.declared.mood.Mood.TheVariants.{Unasked, Spoken}
use Rattle.member_spec.specs.Actor.{Actor, descriptor_made}
use Rattle.member_spec.specs.Replies.{Replies}
use Rattle.member_parts.specs.Endings.{IsOpen}
use Rattle.member_core.specs.declared.machine.Machine.{Machine}
use Rattle.member_core.specs.Membership.{Holdings, holdings_of}
use Rattle.member_core.specs.Needs.{HoldsNeeded}
use Rattle.member_core.specs.Shorts.{own_limit}
use Rattle.member_core.specs.Stands.{StandsFor}

-- ---- where it stands

-- the same in another mood
abbrev pub asked_at : Holdings → Mood → Holdings
asked_at h mood = record h { mood = mood }

-- a member is to be asked: its round is open, it speaks at its stage, and it was not asked there yet
pub record IsToBeAsked (m : Machine) : Type 0 where
  pub going : IsOpen m.ending
  pub speaks : IsTrue (is_slot m.log.shape m.stage m.seat.number)
  pub unasked : m.mood ≡ Unasked

-- and it holds just the secrets that it needs once it was asked there
pub record IsSpeakable (m : Machine) : Type 0 where
  pub to_be_asked : IsToBeAsked m
  pub needed : HoldsNeeded (asked_at (holdings_of m) Spoken)

-- as far as it does not hang on its mood, it stands for the pure machine as one that was asked
abbrev pub StandsAsked : Replies → Replies → Configuration → Actor → Holdings → Type 0
StandsAsked now start c a h = StandsFor now start c (record a { mood = Spoken }) (asked_at h Spoken)

-- ---- what it has to say

-- a stage of this kind takes no secret and asks about no descriptor
abbrev pub IsPlainKind : StageKind → Type 0
IsPlainKind (Submit shuffle) = ⊥
IsPlainKind (Final shuffle) = ⊥
IsPlainKind kind = Unit {0}

-- the content of a body where it stands, under its header with the view of what was said before
abbrev pub content_here : Machine → Body → Content
content_here m body = record {
  header = header_at m.seat m.stage (view_of m.log.shape (past_of m.log m.stage) m.stage);
  body = body;
}

-- a body is what the rules give it to say at its stage, which is of a kind: it fits there, is not too long, and is the row
-- of the kind
pub record IsDue (now : Replies) (m : Machine) (kind : StageKind) (body : Body) : Type 0 where
  pub fits : IsBody m.log.shape m.stage body
  pub short : LEAST_CONTENT + length (body_text body) ≤ own_limit (Some kind)
  pub told : (start : Replies) (c : Configuration) (a : Actor) → StandsFor now start c a (holdings_of m) →
      body ≡ own_body_at c (descriptor_made start c a.stand.past) a.stand.past a.stand.at kind
