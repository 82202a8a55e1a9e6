-- What a member says over a past of posts that read in their slots: contents of the grammar, short enough for a post.
use Rattle.std.specs.Prelude.{◌≡◌, ℕ, ◌+◌, ◌*◌, ◌≤◌, List, length, IsTrue, Some, slice_get}
use Rattle.wire_core.specs.Bytes.{IsBytes}
use Rattle.phase_message.specs.declared.content.Content.{Content}
use Rattle.phase_message.specs.declared.post.Post.{Post}
use Rattle.phase_message.specs.declared.stage.Slot.{Slot}
use Rattle.phase_message.specs.Grammar.{OfGrammar}
use Rattle.phase_message.specs.Slots.{slot_at, slots_before}
use Rattle.phase_message.specs.Stages.{is_slot}
use Rattle.stage_log.specs.Log.{contents_of}
use Rattle.round_spec.specs.Say.{Configuration, content_with, own_content, own_descriptor, own_post, shape_in}
use Rattle.round_spec.specs.Runs.{AllGo, CanEnter, ChecksIn, IsConfiguration, ReadsIn}

-- a past at a stage: a post for each slot before it, which reads in the slot
pub record IsPastAt (c : Configuration) (stage : ℕ) (past : List Post) : Type 0 where
  pub whole : length past ≡ slots_before (shape_in c) stage
  pub reads : (number : ℕ) (slot : Slot) (post : Post) → slot_at (shape_in c) number ≡ Some slot → slice_get past number ≡ Some post →
      ReadsIn c slot post

-- a member speaks at a stage over such a past, whether its key is the roster's or not
pub record CanSay (c : Configuration) (stage : ℕ) (past : List Post) : Type 0 where
  pub enter : CanEnter c
  pub speaks : IsTrue (is_slot (shape_in c) stage c.number)
  pub past_is : IsPastAt c stage past

-- the content that it has to say
abbrev pub content_due : Configuration → List Post → ℕ → Content
content_due c past stage = content_with c (own_descriptor c (contents_of past)) past stage

-- is of the grammar
abbrev pub OwnRowOfGrammar : Type 0
OwnRowOfGrammar = (c : Configuration) (stage : ℕ) (past : List Post) → CanSay c stage past
    → OfGrammar (shape_in c) (content_due c past stage)

-- and so it would be with any bytes for its own descriptor, as long as there are as many as in a descriptor of the group
abbrev pub RowOfGrammar : Type 0
RowOfGrammar = (c : Configuration) (own : List ℕ) (stage : ℕ) (past : List Post) → CanSay c stage past →
    length own ≡ 36 + 2272 * (shape_in c).members → IsBytes own → OfGrammar (shape_in c) (content_with c own past stage)

-- and if no verdict ended the round before, it has at most as many bytes as at the end of shuffle B of a group of eight,
-- where all posts before are embedded
abbrev pub OwnContentIsShort : Type 0
OwnContentIsShort = (c : Configuration) (stage : ℕ) (past : List Post) → CanSay c stage past → AllGo c past stage →
    length (own_content c past stage) ≤ 11539924

-- so its post reads in its slot
abbrev pub OwnPostReads : Type 0
OwnPostReads = (c : Configuration) (stage : ℕ) (past : List Post) → CanSay c stage past → AllGo c past stage →
    ReadsIn c (record { stage = stage; sender = c.number }) (own_post c past stage)

-- and it checks, where its key is the roster's
abbrev pub OwnPostChecks : Type 0
OwnPostChecks = (c : Configuration) (stage : ℕ) (past : List Post) → IsConfiguration c → CanSay c stage past → AllGo c past stage →
    ChecksIn c (record { stage = stage; sender = c.number }) (own_post c past stage)
