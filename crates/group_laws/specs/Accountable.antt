-- What the group of a script comes to for its honest members, in one record.
use Rattle.std.specs.Prelude.{◌≡◌, ℕ, List, Contains, Some}
use Rattle.bulk_descriptor.specs.declared.slot_state.SlotState.{SlotState}
use Rattle.transcript_form.specs.declared.claim.Claim.{Claim}
use Rattle.round_spec.specs.Premises.{NoRunsCollide, NoneCollide}
use Rattle.round_spec.specs.Runs.{IsFaulty}
use Rattle.accountability.specs.Messages.{HasEachMessage}
use Rattle.member_spec.specs.declared.state.State.TheVariants.{Blamed, Waiting}
use Rattle.round_script.specs.declared.script.Script.{Script}
use Rattle.round_script.specs.Script.{IsScript}
use Rattle.group_spec.specs.Driver.{MemberShown}
use Rattle.group_spec.specs.Scripts.{script_end, script_members, script_roster}
use Rattle.group_laws.specs.AllHonest.{IsServed, IsUndisturbed}
use Rattle.group_laws.specs.Forging.{honest_runs}
use Rattle.group_laws.specs.Members.{IsFaultyAsSaid, numbers_shown}
use Rattle.group_laws.specs.Naming.{PrintsMissed}
use Rattle.group_laws.specs.Promises.{IsHonestIn, KeepsItsPromise}

-- The members of the script are shown, each once, and of each whether it has a fault. Each honest one keeps its promise, and the
-- words for one that is open name exactly those that are missed. Where no two strings of the honest runs have one hash, one that is done has
-- every honest message; whom one blames has no honest run, where no string of its transcript collides either; all that are
-- done have one list; and where the script has no fault and no post is lost, all are done, with all messages.
pub record IsAccountable (script : Script) : Type 0 where
  pub members : numbers_shown script ≡ script_members script
  pub faults : (shown : MemberShown) → Contains (script_end script) shown → IsFaultyAsSaid script shown
  pub promise : (shown : MemberShown) → IsHonestIn script shown → KeepsItsPromise script shown
  pub names : (shown : MemberShown) (stage bits : ℕ) → IsHonestIn script shown → shown.state ≡ Waiting stage bits →
      PrintsMissed script shown stage
  pub messages : NoRunsCollide (honest_runs script) → (shown : MemberShown) (slots : List SlotState) → IsHonestIn script shown →
      shown.slots ≡ Some slots → HasEachMessage (honest_runs script) script.round slots
  pub faulty : (shown : MemberShown) (bytes : List ℕ) (accused : ℕ) (claim : Claim) →
      NoneCollide (script_roster script) (honest_runs script) bytes → IsHonestIn script shown → shown.evidence ≡ Some bytes →
      shown.state ≡ Blamed accused claim → IsFaulty (honest_runs script) script.round accused
  pub one_list : NoRunsCollide (honest_runs script) → (shown other : MemberShown) (slots others_slots : List SlotState) →
      IsHonestIn script shown → IsHonestIn script other → shown.slots ≡ Some slots → other.slots ≡ Some others_slots → slots ≡ others_slots
  pub undisturbed : IsUndisturbed script → NoRunsCollide (honest_runs script) → (shown : MemberShown) →
      Contains (script_end script) shown → IsServed script shown

-- so is the group of every script
abbrev pub GroupsAreAccountable : Type 0
GroupsAreAccountable = (script : Script) → IsScript script → IsAccountable script
