-- That two members that are done have one list of slots.
use Rattle.std.specs.Prelude.{◌≡◌, ℕ, List, All, Contains}
use Rattle.wire_core.specs.Bytes.{IsBytes}
use Rattle.bulk_descriptor.specs.declared.slot_state.SlotState.{SlotState}
use Rattle.round_spec.specs.Premises.{NoRunsCollide}
use Rattle.round_spec.specs.Result.{DoneWith, result_of}
use Rattle.round_spec.specs.Runs.{IsConfiguration, Run, run_after}
use Rattle.round_spec.specs.Say.{Configuration}
use Rattle.accountability.specs.Faulty.{IsAmong}

-- a member of the round whose run is one of the list too; of what was delivered to it nothing is asked but that it is bytes
pub record IsOther (c other : Configuration) (delivered : List (List ℕ)) (runs : List Run) : Type 0 where
  pub config : IsConfiguration other
  pub bytes : All IsBytes delivered
  pub own : Contains runs (run_after other delivered)
  pub round : other.round ≡ c.round

-- two members that are done have the same list of slots, whoever is faulty
abbrev pub SameList : Type 0
SameList = (c other : Configuration) (delivered others_delivered : List (List ℕ)) (runs : List Run) (slots others_slots : List SlotState) →
    IsAmong c delivered runs → IsOther c other others_delivered runs → NoRunsCollide runs →
    result_of c delivered ≡ DoneWith slots → result_of other others_delivered ≡ DoneWith others_slots → slots ≡ others_slots
