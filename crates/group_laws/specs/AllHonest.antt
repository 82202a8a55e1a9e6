-- That a group in which nobody is faulty and nothing is lost is done.
use Rattle.std.specs.Prelude.{◌≡◌, List, [], Contains, Some, false}
use Rattle.std.specs.List.{AllByRecursion}
use Rattle.bulk_descriptor.specs.declared.slot_state.SlotState.{SlotState}
use Rattle.round_spec.specs.Premises.{NoRunsCollide}
use Rattle.round_spec.specs.Runs.{HasNumber}
use Rattle.accountability.specs.Messages.{HasEachMessage}
use Rattle.member_spec.specs.declared.state.State.TheVariants.{Done}
use Rattle.round_script.specs.declared.fault.Fault.TheVariants.{None as Honest}
use Rattle.round_script.specs.declared.script.Script.{Script}
use Rattle.round_script.specs.Script.{IsScript}
use Rattle.group_spec.specs.Driver.{MemberShown}
use Rattle.group_spec.specs.Scripts.{script_end}
use Rattle.group_laws.specs.Entering.{IsMemberOf}
use Rattle.group_laws.specs.Forging.{honest_runs}
use Rattle.std.specs.Prelude.{ℕ}

-- a script names no member with a fault, and no post that does not arrive
pub record IsUndisturbed (script : Script) : Type 0 where
  pub faults : AllByRecursion (λ line. line.fault ≡ Honest) script.faults
  pub drops : script.drops ≡ []

-- a member that is shown has no fault and is done, and its slots hold the message of every member of the group
pub record IsServed (script : Script) (shown : MemberShown) : Type 0 where
  pub honest : shown.faulty ≡ false
  pub done : shown.state ≡ Done
  pub slots : List SlotState
  pub shows : shown.slots ≡ Some slots
  pub messages : HasEachMessage (honest_runs script) script.round slots
  pub all : (member : ℕ) → IsMemberOf script member → HasNumber (honest_runs script) member

-- so is each member of the group of such a script, where no two strings of the runs have one hash
abbrev pub UndisturbedGroupsAreDone : Type 0
UndisturbedGroupsAreDone = (script : Script) (shown : MemberShown) → IsScript script → IsUndisturbed script →
    NoRunsCollide (honest_runs script) → Contains (script_end script) shown → IsServed script shown
