-- That a done round holds each honest member's message.
use Rattle.std.specs.Prelude.{◌≡◌, ◌≢◌, ℕ, List, Contains, Some}
use Rattle.std.specs.List.{slice_get}
use Rattle.bulk_descriptor.specs.declared.slot_state.SlotState.{SlotState}
use Rattle.bulk_descriptor.specs.declared.slot_state.SlotState.TheVariants.{Message}
use Rattle.round_spec.specs.Premises.{NoRunsCollide}
use Rattle.round_spec.specs.Result.{DoneWith, result_of}
use Rattle.round_spec.specs.Runs.{Run}
use Rattle.round_spec.specs.Say.{Configuration}
use Rattle.accountability.specs.Faulty.{IsAmong}

-- there is a place for each run of the round, where the slot holds exactly the message of the run; and two members have
-- two places
pub record HasEachMessage (runs : List Run) (round : ℕ) (slots : List SlotState) : Type 0 where
  pub place : (run : Run) → Contains runs run → run.config.round ≡ round → ℕ
  pub holds : (run : Run) (listed : Contains runs run) (its : run.config.round ≡ round) →
      slice_get slots (place run listed its) ≡ Some (Message run.config.message)
  pub apart : (run other : Run) (listed : Contains runs run) (other_listed : Contains runs other)
      (its : run.config.round ≡ round) (others : other.config.round ≡ round) →
      run.config.number ≢ other.config.number → place run listed its ≢ place other other_listed others

-- so it is with the slots of a member that is done
abbrev pub DoneHasMessages : Type 0
DoneHasMessages = (c : Configuration) (delivered : List (List ℕ)) (runs : List Run) (slots : List SlotState) →
    IsAmong c delivered runs → NoRunsCollide runs → result_of c delivered ≡ DoneWith slots → HasEachMessage runs c.round slots
