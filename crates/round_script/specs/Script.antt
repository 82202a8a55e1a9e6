-- Which values are scripts.
use Rattle.std.specs.Prelude.{◌≡◌, ◌≤◌, ◌<◌, ◌^◌, true, ℕ, ◌+◌, ◌*◌, List, [], ◌∷◌, length, map, Option, Some, None, Ok}
use Rattle.std.specs.List.{AllByRecursion}
use Rattle.phase_message.specs.Shape.{Shape}
use Rattle.phase_message.specs.Stages.{is_slot}
use Rattle.phase_message.specs.declared.stage.Slot.{Slot}
use Rattle.wire_core.specs.Bytes.{IsBytes}
use Rattle.round_script.specs.declared.script.Script.{Script}
use Rattle.round_script.specs.declared.script.TheConstants.{MESSAGE_LIMIT}
use Rattle.round_script.specs.Forms.{rank_of}
use Rattle.round_script.specs.Read.{script_read}

-- numbers rise strictly, from a least one on and below a bound
abbrev pub Rise : ℕ → ℕ → List ℕ → Type 0
Rise least bound [] = Unit {0}
Rise least bound (n ∷ numbers) = (least ≤ n) × (n < bound) × Rise (n + 1) bound numbers

-- a message that a script can have
abbrev pub IsMessage : List ℕ → Type 0
IsMessage message = (length message ≤ MESSAGE_LIMIT) × IsBytes message

-- the shape of a script's round
abbrev pub shape_of_script : Script → Shape
shape_of_script script = record { version = script.version; members = length script.messages }

-- a slot of a round
abbrev pub IsSlotOf : Shape → Slot → Type 0
IsSlotOf shape slot = is_slot shape slot.stage slot.sender ≡ true

-- how often posts can arrive
abbrev pub IsRepeat : Option ℕ → Type 0
IsRepeat None = Unit {0}
IsRepeat (Some times) = (1 ≤ times) × (times ≤ 9)

-- a value that is a script
pub record IsScript (script : Script) : Type 0 where
  pub version : script.version ≡ 1
  pub least : 2 ≤ length script.messages
  pub most : length script.messages ≤ 8
  pub round_least : 1 ≤ script.round
  pub round_most : script.round < 2 ^ 64
  pub seed : length script.seed ≡ 32
  pub seed_bytes : IsBytes script.seed
  pub messages : AllByRecursion IsMessage script.messages
  pub faults : Rise 1 (length script.messages + 1) (map (λ line. line.member) script.faults)
  pub drops : AllByRecursion (IsSlotOf (shape_of_script script)) script.drops
  pub order : Rise 0 (8 * (2 * length script.messages + 10)) (map rank_of script.drops)
  pub repeat : IsRepeat script.repeat

-- what bytes are read as is a script
abbrev pub ReadScriptsAreScripts : Type 0
ReadScriptsAreScripts = (bytes : List ℕ) (script : Script) → script_read bytes ≡ Ok script → IsScript script
