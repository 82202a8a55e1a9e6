-- Where two logs differ.
use Rattle.std.specs.Prelude.{◌≡◌, ◌≢◌, ◌⊎◌, ◌<◌, ◌≤◌, ℕ, ◌+◌, Bool, false, not, Option, Some, None, bytes_eq, if◌then◌else◌}
use Rattle.phase_message.specs.declared.post.Post.{Post}
use Rattle.phase_message.specs.declared.stage.Slot.{Slot}
use Rattle.phase_message.specs.Slots.{stage_count}
use Rattle.wire_core.specs.Answers.{first_below}
use Rattle.stage_log.specs.Table.{Log, kept_in}

-- two logs keep a slot with different contents
pub record Differ (log other : Log) (slot : Slot) : Type 0 where
  pub post : Post
  pub other_post : Post
  pub kept : kept_in log slot ≡ Some post
  pub other_kept : kept_in other slot ≡ Some other_post
  pub contents : post.content ≢ other_post.content

-- they differ in no slot
abbrev pub HaveNoDifference : Log → Log → Type 0
HaveNoDifference log other = (slot : Slot) → Differ log other slot → ⊥

-- they differ in a slot, and in no slot of an earlier stage, nor of an earlier sender of its stage
pub record IsFirstDifference (log other : Log) (slot : Slot) : Type 0 where
  pub differ : Differ log other slot
  pub first : (later : Slot) → Differ log other later → (slot.stage < later.stage)
      ⊎ ((slot.stage ≡ later.stage) × (slot.sender ≤ later.sender))

-- whether there are two posts, and their contents differ
abbrev pub are_different : Option Post → Option Post → Bool
are_different (Some post) (Some other) = not (bytes_eq post.content other.content)
are_different (Some post) None = false
are_different None other = false

-- a slot in which two logs differ
abbrev pub differing : Log → Log → Slot → Option Slot
differing log other slot = if are_different (kept_in log slot) (kept_in other slot) then Some slot else None

-- the first slot of a stage, by sender, in which they differ
abbrev pub difference_at : Log → Log → ℕ → Option Slot
difference_at log other stage = first_below log.shape.members (λ place. differing log other (record { stage = stage; sender = place + 1 }))

-- the first slot, by stage and then by sender, in which they differ
abbrev pub difference_of : Log → Log → Option Slot
difference_of log other = first_below (stage_count log.shape) (difference_at log other)
