-- Whom an open round names.
use Rattle.std.specs.Prelude.{◌≡◌, ◌≢◌, ◌↔◌, ℕ, ◌<◌, List, All, AllPairs, Contains, IsSome, IsTrue, Some}
use Rattle.wire_core.specs.Bytes.{IsBytes}
use Rattle.phase_message.specs.declared.stage.Slot.{Slot}
use Rattle.phase_message.specs.Stages.{is_slot}
use Rattle.stage_log.specs.Table.{first_incomplete_of, kept_in}
use Rattle.round_spec.specs.Embedded.{slot_named}
use Rattle.round_spec.specs.Result.{Heard, Waiting, heard_of, log_after, result_of}
use Rattle.round_spec.specs.Runs.{CanEnter}
use Rattle.round_spec.specs.Say.{Configuration, shape_in}

-- of no delivered string a post is heard that names a slot, whatever its body is
abbrev pub IsUnheard : Configuration → List (List ℕ) → Slot → Type 0
IsUnheard c delivered slot = (bytes : List ℕ) (heard : Heard) → Contains delivered bytes → heard_of c bytes ≡ Some heard →
    slot_named heard.header ≢ slot

-- another member speaks at a stage, and its post was not delivered
pub record IsMissed (c : Configuration) (delivered : List (List ℕ)) (stage member : ℕ) : Type 0 where
  pub speaks : IsTrue (is_slot (shape_in c) stage member)
  pub other : member ≢ c.number
  pub unheard : IsUnheard c delivered (record { stage = stage; sender = member })

-- a stage is the first of the member's log that is not complete; those of a list, each there once and in ascending order,
-- are exactly the members that are missed there; there is one; and the member's own post is there, if it speaks there
pub record NamesMissed (c : Configuration) (delivered : List (List ℕ)) (stage : ℕ) (named : List ℕ) : Type 0 where
  pub first : first_incomplete_of (log_after c delivered) ≡ Some stage
  pub missed : (member : ℕ) → Contains named member ↔ IsMissed c delivered stage member
  pub ascending : AllPairs (λ member later. member < later) named
  pub somebody : (member : ℕ) × Contains named member
  pub own : IsTrue (is_slot (shape_in c) stage c.number) → IsSome
      (kept_in (log_after c delivered) (record { stage = stage; sender = c.number }))

-- so it is with each open result
abbrev pub OpenNames : Type 0
OpenNames = (c : Configuration) (delivered : List (List ℕ)) (stage : ℕ) (named : List ℕ) → CanEnter c → All IsBytes delivered →
    result_of c delivered ≡ Waiting stage named → NamesMissed c delivered stage named
