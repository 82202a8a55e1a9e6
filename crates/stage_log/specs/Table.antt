-- What a member keeps of a round: at most one post for each slot.
use Rattle.std.specs.Prelude.{◌≡◌, ℕ, ◌+◌, ◌-◌, ◌^◌, ◌<◌, ◌≤◌, List, length, replicate, Bool, ◌&&◌, Option, Some, None, is_some, is_none, All, IfSome, if◌then◌else◌}
use Rattle.std.specs.List.{slice_get, slice_range, slice_set, range_with_len, list_all, sum_by}
use Rattle.std.specs.Option.{option_flatten}
use Rattle.phase_message.specs.declared.post.Post.{Post}
use Rattle.phase_message.specs.declared.post.TheConstants.{LEAST_CONTENT}
use Rattle.phase_message.specs.declared.stage.Slot.{Slot}
use Rattle.wire_core.specs.Answers.{first_below}
use Rattle.phase_message.specs.Shape.{Shape, IsShape}
use Rattle.phase_message.specs.Stages.{is_slot}
use Rattle.phase_message.specs.Slots.{slot_count, slot_number, slots_before, stage_count}

-- a round's shape, and its posts by the numbers of their slots
pub record Log : Type 0 where
  pub shape : Shape
  pub posts : List (Option Post)

-- a content that can be kept: it has a header and a kind, and its length in four bytes
pub record IsKept (content : List ℕ) : Type 0 where
  pub least : LEAST_CONTENT ≤ length content
  pub most : length content < 2 ^ 32

-- the posts of these places can be kept
abbrev pub AreKept : List (Option Post) → Type 0
AreKept places = All (λ kept. IfSome kept (λ (post : Post). IsKept post.content)) places

-- a log has a place for each slot of its round
pub record IsLog (log : Log) : Type 0 where
  pub shape : IsShape log.shape.version log.shape.members
  pub places : length log.posts ≡ slot_count log.shape
  pub contents : AreKept log.posts

-- a log that holds nothing
abbrev pub empty_log : Shape → Log
empty_log shape = record { shape = shape; posts = replicate (slot_count shape) None }

-- the post of a slot, if there is one
abbrev pub kept_in : Log → Slot → Option Post
kept_in log slot =
    if is_slot log.shape slot.stage slot.sender
    then option_flatten (slice_get log.posts (slot_number log.shape slot.stage slot.sender))
    else None

-- the log with this post in a slot
abbrev pub filled : Log → Slot → Post → Log
filled log slot post = record log { posts = slice_set log.posts (slot_number log.shape slot.stage slot.sender) (Some post) }

-- the posts of a stage, by sender
abbrev pub posts_in : Log → ℕ → List (Option Post)
posts_in log stage = slice_range log.posts (slots_before log.shape stage) (slots_before log.shape (stage + 1))

-- whether all senders of a stage have their posts in the log
abbrev pub is_complete : Log → ℕ → Bool
is_complete log stage = list_all is_some (posts_in log stage)

-- whether a member speaks in a stage and has no post there
abbrev pub is_missing : Log → ℕ → ℕ → Bool
is_missing log stage member =
    is_slot log.shape stage member && is_none (kept_in log (record { stage = stage; sender = member }))

-- bit i - 1 for member i, where its post is missing in a stage
abbrev pub missing_bit : Log → ℕ → ℕ → ℕ
missing_bit log stage member = if is_missing log stage member then 2 ^ (member - 1) else 0

-- the bits of all members whose posts are missing in a stage
abbrev pub missing_bits : Log → ℕ → ℕ
missing_bits log stage = sum_by (missing_bit log stage) (range_with_len 1 log.shape.members)

-- a stage that is not complete
abbrev pub incomplete_stage : Log → ℕ → Option ℕ
incomplete_stage log stage = if is_complete log stage then None else Some stage

-- the first stage of the round that is not complete
abbrev pub first_incomplete_of : Log → Option ℕ
first_incomplete_of log = first_below (stage_count log.shape) (incomplete_stage log)
