-- What the single rules of a replay look at, and what they find.
use Rattle.std.specs.Prelude.{◌≡◌, ℕ, ◌<◌, ◌^◌, List, [], ◌∷◌, map, length, All, Option, Some, None, IsSome, if◌then◌else◌, bytes_eq}
use Rattle.phase_message.specs.declared.content.Body.{Body}
use Rattle.phase_message.specs.declared.content.Body.TheVariants.{Submit, Shuffled, Abort}
use Rattle.phase_message.specs.declared.post.Post.{Post}
use Rattle.phase_message.specs.declared.stage.Slot.{Slot}
use Rattle.phase_message.specs.declared.stage.StageKind.{StageKind}
use Rattle.phase_message.specs.declared.stage.StageKind.TheVariants.{Final}
use Rattle.phase_message.specs.Offence.{content_read}
use Rattle.phase_message.specs.Shape.{Shape}
use Rattle.phase_message.specs.Stages.{kind_of_stage}
use Rattle.wire_core.specs.Answers.{first_some}
use Rattle.stage_log.specs.Log.{before}
use Rattle.stage_log.specs.Table.{Log, kept_in}
use Rattle.shuffle_blame.specs.declared.ended.Ended.{Ended}
use Rattle.shuffle_blame.specs.declared.fault.Fault.{Fault}
use Rattle.shuffle_blame.specs.declared.fault.Shown.{Shown}
use Rattle.shuffle_blame.specs.declared.parts.Part.{Part}
use Rattle.shuffle_blame.specs.Replay.{Inquiry, body_of, is_order_of, seed_fault, submission_fault, turn_fault}
use Rattle.shuffle_blame.specs.Asked.{inquiry_of}

-- ---- what is said in the slots of a log

-- what is said in a post, if there is one; else it is Abort
abbrev pub body_of_post : Shape → Option Post → Body
body_of_post shape None = Abort
body_of_post shape (Some post) = body_of (content_read shape post.content)

-- what a log keeps in a slot
abbrev pub body_kept : Log → Slot → Body
body_kept log slot = body_of_post log.shape (kept_in log slot)

-- ciphertexts and entries are fewer than 2^32 bytes
abbrev pub IsShort : Body → Type 0
IsShort (Submit ciphertext) = length ciphertext < 2 ^ 32
IsShort (Shuffled list) = All (λ entry. length entry < 2 ^ 32) list
IsShort _ = Unit {0}

-- ---- the end of a shuffle

-- what the members show, by the parts of it that are ready for use
abbrev pub shown_by : List Part → List Shown
shown_by parts = map (λ part. part.shown) parts

-- what a replay looks at, where a shuffle ends
abbrev pub inquiry_at : Log → Ended → List Part → Inquiry
inquiry_at log ended parts = inquiry_of log ended.stage ended.round (shown_by parts)

-- the stage ends the shuffle, all stages before it are complete, and each member shows its part
pub record IsEnd (log : Log) (ended : Ended) (parts : List Part) : Type 0 where
  pub ends : kind_of_stage log.shape ended.stage ≡ Some (Final ended.shuffle)
  pub complete : IsSome (before log ended.stage)
  pub each_shows : length parts ≡ log.shape.members

-- the body of a layer that carries m
abbrev pub body_under : List ℕ → Option (List ℕ × List ℕ) → Option (List ℕ)
body_under m None = None
body_under m (Some found) = if bytes_eq found.0 m then Some found.1 else None

-- a list that is said, where it is these bodies in some order
abbrev pub list_in_order : Option (List (List ℕ)) → Option (List (List ℕ)) → Option (List (List ℕ))
list_in_order bodies list = if is_order_of bodies list then list else None

-- the first fault by what the members show: that of the outer seeds, of the submissions and of the turns
abbrev pub fault_shown : Option StageKind → Inquiry → Option Fault
fault_shown (Some (Final shuffle)) q = first_some (seed_fault q shuffle ∷ submission_fault q shuffle ∷ turn_fault q ∷ [])
fault_shown _ q = None
