-- A member as a pure machine: what it keeps of a round, and what becomes of it with each delivery. The machine is the
-- definition for a member of any conduct. For a plain one, laws say that it comes to the result of its deliveries.
use Rattle.std.specs.Prelude.{ℕ, ◌*◌, List, [], ◌∷◌, ◌++◌, Bool, false, ◌==◌, nat_lt, is_ok, is_some, fold, Option, Some, None, if◌then◌else◌}
use Rattle.std.specs.Fn.{iterate}
use Rattle.phase_message.specs.declared.post.Post.{Post}
use Rattle.phase_message.specs.Grammar.{content_text}
use Rattle.phase_message.specs.Offence.{content_read}
use Rattle.phase_message.specs.Slots.{stage_count}
use Rattle.phase_message.specs.Stages.{is_slot}
use Rattle.stage_log.specs.Log.{all_some, contents_of}
use Rattle.stage_log.specs.Table.{Log, empty_log, filled, kept_in, posts_in}
use Rattle.bulk_descriptor.specs.Descriptor.{descriptor_text}
use Rattle.round_spec.specs.Embedded.{slot_named}
use Rattle.round_spec.specs.Say.{Configuration, content_with, own_description, shape_in, signed_at}
use Rattle.round_spec.specs.Verdict.{Verdict, Goes}
use Rattle.round_spec.specs.Course.{Stand, first_stand, is_open, stand_behind}
use Rattle.round_spec.specs.Result.{Heard, fault_shown, heard_of}
use Rattle.member_spec.specs.declared.conduct.Speech.{Speech}
use Rattle.member_spec.specs.declared.conduct.Speech.TheVariants.{Say, Wait, Silent}
use Rattle.member_spec.specs.declared.mood.Mood.{Mood}
use Rattle.member_spec.specs.declared.mood.Mood.TheVariants.{Unasked, PutOff, Spoken, Mute}
use Rattle.member_spec.specs.Replies.{Replies}

-- what a member keeps: the posts of the others and of its own; where it stands; whether it has said what it has to say
-- there; the posts that it made, in their order; and what ended its round, which is that it goes on as long as nothing has
pub record Actor : Type 0 where
  pub log : Log
  pub stand : Stand
  pub mood : Mood
  pub made : List Post
  pub ending : Verdict

-- a member that has kept nothing and said nothing
abbrev pub first_actor : Configuration → Actor
first_actor c = record { log = empty_log (shape_in c); stand = first_stand; mood = Unasked; made = []; ending = Goes }

-- ---- what it says

-- the bytes of the descriptor that its conduct made of its own one
abbrev pub descriptor_made : Replies → Configuration → List Post → List ℕ
descriptor_made replies c past = descriptor_text (replies.descriptor (own_description c (contents_of past)))

-- the content that the rules give it to say where it stands, with that descriptor
unfoldable pub content_to_say : Replies → Configuration → Stand → List ℕ
content_to_say replies c stand =
    content_text (content_with c (descriptor_made replies c stand.past) stand.past stand.at)

-- what its conduct answers about bytes where it stands; the conduct is asked about the descriptor behind the first stage
abbrev pub speech_about : Replies → Configuration → Actor → List ℕ → Speech
speech_about replies c a bytes =
    if a.stand.at == 0 then replies.speech a.stand.at bytes a.log
    else replies.speech_after (own_description c (contents_of a.stand.past)) a.stand.at bytes a.log

-- behind a post of a content it has spoken and keeps the post, if the content is of the grammar; else it is mute
abbrev pub actor_behind_post : Configuration → Actor → Post → Actor
actor_behind_post c a post =
    if is_ok (content_read (shape_in c) post.content)
    then record a {
      log = filled a.log (record { stage = a.stand.at; sender = c.number }) post;
      mood = Spoken;
      made = a.made ++ post ∷ [];
    }
    else record a { mood = Mute; made = a.made ++ post ∷ [] }

-- behind an answer of its conduct: it posts what is said, signed with its next leaf; it puts off; or it is mute
abbrev pub actor_behind_answer : Configuration → Actor → Speech → Actor
actor_behind_answer c a (Say bytes) = actor_behind_post c a (signed_at c a.stand.at bytes)
actor_behind_answer c a (Wait bytes) = record a { mood = PutOff bytes }
actor_behind_answer c a Silent = record a { mood = Mute }

-- behind the question about these bytes
abbrev pub actor_behind_question : Replies → Configuration → Actor → List ℕ → Actor
actor_behind_question replies c a bytes = actor_behind_answer c a (speech_about replies c a bytes)

-- ---- one step

-- whether it is to be asked: it is a sender of the stage that is being filled, and was not asked there yet
abbrev pub is_due : Configuration → Stand → Mood → Bool
is_due c stand Unasked = is_slot (shape_in c) stand.at c.number
is_due c stand mood = false

-- the posts of the stage that is being filled, if it is one of the round and all are there
abbrev pub stage_posts : Configuration → Actor → Option (List Post)
stage_posts c a = if nat_lt a.stand.at (stage_count (shape_in c)) then all_some (posts_in a.log a.stand.at) else None

-- behind a stage that is complete: it is judged, a verdict that ends the round ends it, and at the next stage the member
-- was not asked yet
abbrev pub actor_behind_stage : Configuration → Actor → Stand → Actor
actor_behind_stage c a stand = record a { stand = stand; mood = Unasked; ending = stand.verdict }

-- behind a step with these posts of the stage: a complete stage is passed; where it is not complete, the member speaks if
-- it is to be asked
abbrev pub actor_behind_step_with : Replies → Configuration → Actor → Option (List Post) → Actor
actor_behind_step_with replies c a (Some posts) = actor_behind_stage c a (stand_behind c a.stand posts)
actor_behind_step_with replies c a None = if is_due c a.stand a.mood then actor_behind_question replies c a
    (content_to_say replies c a.stand) else a

-- behind one step, as long as the round is open
unfoldable pub actor_behind_step : Replies → Configuration → Actor → Actor
actor_behind_step replies c a = if is_open a.ending then actor_behind_step_with replies c a (stage_posts c a) else a

-- behind all steps that there can be: each passes a stage or speaks at one
abbrev pub actor_behind_steps : Replies → Configuration → Actor → Actor
actor_behind_steps replies c a = iterate (actor_behind_step replies c) (2 * stage_count (shape_in c)) a

-- ---- one delivery

-- behind a repeated question, which is about what was put off
abbrev pub actor_behind_repeat : Replies → Configuration → Actor → Mood → Actor
actor_behind_repeat replies c a (PutOff bytes) = actor_behind_question replies c a bytes
actor_behind_repeat replies c a mood = a

-- with a post that is heard of another member, kept in its slot
abbrev pub actor_with_heard : Actor → Heard → Actor
actor_with_heard a heard = record a { log = filled a.log (slot_named heard.header) heard.post }

-- behind what is heard: the post is stored, unless its slot has one
abbrev pub actor_behind_heard : Replies → Configuration → Actor → Option Heard → Actor
actor_behind_heard replies c a None = a
actor_behind_heard replies c a (Some heard) =
    if is_some (kept_in a.log (slot_named heard.header)) then a
    else actor_behind_steps replies c (actor_behind_repeat replies c (actor_with_heard a heard) a.mood)

-- behind a string and the fault that it shows against its sender, which ends the round
abbrev pub actor_behind_fault : Replies → Configuration → Actor → List ℕ → Option Verdict → Actor
actor_behind_fault replies c a bytes (Some conviction) = record a { ending = conviction }
actor_behind_fault replies c a bytes None = actor_behind_heard replies c a (heard_of c bytes)

-- behind one delivery: nothing happens where the round has ended
unfoldable pub actor_behind_delivery : Replies → Configuration → Actor → List ℕ → Actor
actor_behind_delivery replies c a bytes =
    if is_open a.ending then actor_behind_fault replies c a bytes (fault_shown c (kept_in a.log) bytes) else a

-- ---- a round

-- a member that enters a round speaks as far as it can
abbrev pub actor_at_start : Replies → Configuration → Actor
actor_at_start replies c = actor_behind_steps replies c (first_actor c)

-- a member after deliveries, each taken behind the one before
unfoldable pub actor_after : Replies → Configuration → List (List ℕ) → Actor
actor_after replies c delivered = fold (actor_behind_delivery replies c) (actor_at_start replies c) delivered
