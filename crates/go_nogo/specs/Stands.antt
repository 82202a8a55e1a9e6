-- What stands in the slots of a log: contents of the grammar, and votes.
use Rattle.std.specs.Prelude.{◌≡◌, ℕ, List, Bool, true, false, Option, Some, IsTrue, option_and_then}
use Rattle.phase_message.specs.declared.content.Content.{Content}
use Rattle.phase_message.specs.declared.post.Post.{Post}
use Rattle.phase_message.specs.declared.stage.Slot.{Slot}
use Rattle.phase_message.specs.declared.stage.StageKind.{StageKind}
use Rattle.phase_message.specs.declared.stage.StageKind.TheVariants.{Go, Check}
use Rattle.phase_message.specs.Grammar.{OfGrammar, content_text}
use Rattle.phase_message.specs.Shape.{Shape}
use Rattle.phase_message.specs.Stages.{kind_of_stage}
use Rattle.stage_log.specs.Log.{content_in, contents_in}
use Rattle.stage_log.specs.Table.{Log, kept_in, posts_in}
use Rattle.go_nogo.specs.declared.votes.Vote.{Vote}
use Rattle.go_nogo.specs.Votes.{vote_of, votes_of}

-- the slot of a content's header
abbrev pub slot_of : Content → Slot
slot_of content = record { stage = content.header.stage; sender = content.header.sender }

-- bytes spell a content of the grammar that stands in this slot
pub record StandsIn (shape : Shape) (slot : Slot) (bytes : List ℕ) : Type 0 where
  pub said : Content
  pub spelled : bytes ≡ content_text said
  pub grammar : OfGrammar shape said
  pub stage_is : said.header.stage ≡ slot.stage
  pub sender_is : said.header.sender ≡ slot.sender

-- what a log keeps of a stage is of the grammar and stands in its slots
abbrev pub StandAt : Log → ℕ → Type 0
StandAt log stage =
    (sender : ℕ) (post : Post) → kept_in log (record { stage = stage; sender = sender }) ≡ Some post →
    StandsIn log.shape (record { stage = stage; sender = sender }) post.content

-- all that a log keeps is of the grammar and stands in its slots
abbrev pub StandAll : Log → Type 0
StandAll log = (stage : ℕ) → StandAt log stage

-- whether a stage of this kind has votes
abbrev pub is_vote : Option StageKind → Bool
is_vote (Some (Go shuffle)) = true
is_vote (Some Check) = true
is_vote _ = false

-- a stage of votes
abbrev pub IsVoteStage : Shape → ℕ → Type 0
IsVoteStage shape stage = IsTrue (is_vote (kind_of_stage shape stage))

-- the vote that a log keeps in a slot, if there is one
abbrev pub kept_vote : Log → Slot → Option Vote
kept_vote log slot = option_and_then (vote_of log.shape) (content_in (kept_in log slot))

-- the votes that a log keeps of a stage, by sender, if all that it keeps there are votes
abbrev pub log_votes : Log → ℕ → Option (List Vote)
log_votes log stage = votes_of log.shape (contents_in (posts_in log stage))
