-- When a member stands for what it entered the round with and for the deliveries that it took.
use Rattle.std.specs.Prelude.{◌≡◌, ℕ, ◌+◌, List, Bool, true, false, All, Some, IsTrue, length}
use Rattle.wire_core.specs.Bytes.{IsBytes}
use Rattle.lms_tree.specs.States.{RunState}
use Rattle.phase_message.specs.declared.post.Post.{Post}
use Rattle.group_roster.specs.Given.{roster_of}
use Rattle.group_roster.specs.Roster.{Roster}
use Rattle.stage_log.specs.Log.{before}
use Rattle.transcript_form.specs.Transcript.{transcript_spelling}
use Rattle.shuffle_blame.specs.Asked.{past_of}
use Rattle.bulk_descriptor.specs.Descriptor.{own_pad}
use Rattle.round_spec.specs.Result.{Outcome, Waiting, Blamed as BlamedBy, DoneWith}
use Rattle.round_spec.specs.Say.{Configuration, own_description, own_pad_seeds, own_submission}
use Rattle.round_spec.specs.Slots.{submit_stage}
use Rattle.honest_say.specs.Pasts.{posts_before}
use Rattle.member_spec.specs.declared.mood.Mood.{Mood}
use Rattle.member_spec.specs.declared.mood.Mood.TheVariants.{Mute}
use Rattle.member_spec.specs.Actor.{Actor, actor_after, descriptor_made}
use Rattle.round_spec.specs.Runs.{CanEnter}
use Rattle.member_spec.specs.Outcomes.{outcome_of}
use Rattle.member_spec.specs.Replies.{Replies}
use Rattle.member_parts.specs.declared.config.Config.{Config}
use Rattle.member_parts.specs.declared.ending.Ending.{Ending}
use Rattle.member_parts.specs.declared.ending.Ending.TheVariants.{Open, Done, Blamed}
use Rattle.member_parts.specs.declared.secrets.Secrets.{Secrets}
use Rattle.member_parts.specs.Secrets.{AreSecretsOf}
use Rattle.member_core.specs.Membership.{Holdings, Membership, posts_made}
use Rattle.member_core.specs.Needs.{was_asked}

-- what a member enters a round with, and the leaves that it is handed
abbrev pub configuration_of : Config → RunState → Configuration
configuration_of config leaves = record {
  roster = roster_of config.roster;
  number = config.number;
  round = config.round;
  fresh = config.fresh;
  message = config.message;
  key = leaves.parts;
  first = leaves.first;
}

-- ---- what it entered with

-- these are of the member that entered with this: its group, number, round and message, its key, of which it has used a
-- leaf for each post that it made, and its secrets
pub record IsEntryOf (c : Configuration) (group : Roster) (own at : ℕ) (text : List ℕ) (left : RunState) (said : List Post) (held : Secrets) :
    Type 0 where
  pub roster : group ≡ c.roster
  pub number : own ≡ c.number
  pub round : at ≡ c.round
  pub message : text ≡ c.message
  pub key : left.parts ≡ c.key
  pub next : left.first ≡ c.first + length said
  pub secrets : AreSecretsOf c held

-- a member holds them
abbrev pub HasEntered : Configuration → Holdings → Type 0
HasEntered c h = IsEntryOf c h.roster h.number h.round h.message h.leaves (posts_made h) h.secrets

-- ---- where it stands

-- what has ended a round shows the outcome: nothing where it waits, the slots where it is done, and where it blames
-- somebody the accused, the claim and the bytes of the transcript; a member that is stopped shows none
abbrev pub ShowsOutcome : Ending → Outcome → Type 0
ShowsOutcome Open (Waiting stage members) = Unit {0}
ShowsOutcome (Done slots) (DoneWith states) = slots ≡ states
ShowsOutcome (Blamed conviction) (BlamedBy transcript) =
    (conviction.accused ≡ transcript.accused) × (conviction.claim ≡ transcript.claim)
    × (conviction.transcript ≡ transcript_spelling transcript)
ShowsOutcome ending outcome = ⊥

-- a member is where the pure machine is
pub record IsAt (c : Configuration) (a : Actor) (h : Holdings) : Type 0 where
  pub log : h.log ≡ a.log
  pub stage : h.stage ≡ a.stand.at
  pub past : before h.log h.stage ≡ Some a.stand.past
  pub mood : h.mood ≡ a.mood
  pub made : posts_made h ≡ a.made
  pub ending : ShowsOutcome h.ending (outcome_of c a)

-- ---- its conduct, and what it made of its own

-- the conduct answers as it did at the start, or, once it was asked about the descriptor, about contents as it does then
abbrev pub AnswersBy : Replies → Replies → Configuration → List (List ℕ) → Bool → Type 0
AnswersBy now start c past true = now.speech ≡ start.speech_after (own_description c past)
AnswersBy now start c past false = now ≡ start

-- it does so unless the member is mute, which asks nothing more; the descriptor is asked about with the submission to
-- shuffle A
abbrev pub GoesOn : Replies → Replies → Configuration → Holdings → Mood → Type 0
GoesOn now start c h Mute = Unit {0}
GoesOn now start c h mood = AnswersBy now start c (past_of h.log 1) (was_asked h.stage h.mood 1)

-- once it was asked there, the bytes of its descriptor are those that the conduct made, and its own pad is that of its
-- message; and until it is asked at shuffle B, and from then on, its inner ciphertext is that of what it submitted last
pub record IsOwnOf (start : Replies) (c : Configuration) (h : Holdings) : Type 0 where
  pub descriptor : IsTrue (was_asked h.stage h.mood 1) → h.own.descriptor ≡ descriptor_made start c (posts_before h.log 1)
  pub pad : IsTrue (was_asked h.stage h.mood 1) → h.own.pad ≡ own_pad (own_pad_seeds c) c.number c.message
  pub first : IsTrue (was_asked h.stage h.mood 1) → was_asked h.stage h.mood (submit_stage h.log.shape 2) ≡ false →
      h.own.inner_ciphertext ≡ (own_submission c h.own.descriptor (past_of h.log 1) 1).inner_ciphertext
  pub second : IsTrue (was_asked h.stage h.mood (submit_stage h.log.shape 2)) → h.own.inner_ciphertext
      ≡ (own_submission c h.own.descriptor (past_of h.log (submit_stage h.log.shape 2)) 2).inner_ciphertext

-- unless it is mute
abbrev pub KeepsOwn : Replies → Configuration → Holdings → Mood → Type 0
KeepsOwn start c h Mute = Unit {0}
KeepsOwn start c h mood = IsOwnOf start c h

-- ---- all of it

-- a member whose conduct answers so now stands for the pure machine, if the conduct answered so at the start
pub record StandsFor (now start : Replies) (c : Configuration) (a : Actor) (h : Holdings) : Type 0 where
  pub can_enter : CanEnter c
  pub entered : HasEntered c h
  pub at : IsAt c a h
  pub conduct : GoesOn now start c h h.mood
  pub own : KeepsOwn start c h h.mood

-- a member stands for what it entered with and for these byte strings: it is where the pure machine is after them
pub record Stands {A : Type 0} (replies_of : A → Replies) (start : Replies) (c : Configuration) (delivered : List (List ℕ))
    (m : Membership A) : Type 0 where
  pub strings : All IsBytes delivered
  pub stands : StandsFor (replies_of m.conduct) start c (actor_after start c delivered) m.holds
