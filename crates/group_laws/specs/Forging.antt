-- That nothing is forged in the group of a script, so that each honest member is served.
use Rattle.std.specs.Prelude.{◌≡◌, List, Contains, Some, filter, map, not}
use Rattle.bulk_descriptor.specs.declared.slot_state.SlotState.{SlotState}
use Rattle.transcript_form.specs.declared.claim.Claim.{Claim}
use Rattle.std.specs.Prelude.{ℕ}
use Rattle.round_spec.specs.Premises.{NoRunsCollide, NoneCollide}
use Rattle.round_spec.specs.Runs.{AreHonest, IsFaulty, NoForgery, Run, run_after}
use Rattle.accountability.specs.Faulty.{IsAmong}
use Rattle.accountability.specs.Messages.{HasEachMessage}
use Rattle.member_spec.specs.declared.state.State.TheVariants.{Blamed}
use Rattle.round_script.specs.declared.script.Script.{Script}
use Rattle.round_script.specs.Script.{IsScript}
use Rattle.group_spec.specs.Driver.{MemberShown}
use Rattle.group_spec.specs.Scripts.{script_end, script_roster}
use Rattle.group_laws.specs.Promises.{IsHonestIn, config_shown}

-- the run of a member that is shown: that of what was delivered to it
abbrev pub run_shown : Script → MemberShown → Run
run_shown script shown = run_after (config_shown script shown) shown.delivered

-- the runs of the members without a fault
unfoldable pub honest_runs : Script → List Run
honest_runs script = map (run_shown script) (filter (λ shown. not shown.faulty) (script_end script))

-- they are honest runs of one group and one round
abbrev pub RunsAreHonest : Type 0
RunsAreHonest = (script : Script) → IsScript script → AreHonest (script_roster script) (honest_runs script)

-- no signature of theirs is forged: whatever a member was delivered, or a closing content there embeds, and what is admitted
-- with the number of an honest member, has a content that this member sent
abbrev pub NothingIsForged : Type 0
NothingIsForged = (script : Script) (shown : MemberShown) → IsScript script → Contains (script_end script) shown →
    NoForgery (script_roster script) shown.delivered (honest_runs script)

-- so each honest member stands among the runs of all of them
abbrev pub HonestStandAmong : Type 0
HonestStandAmong = (script : Script) (shown : MemberShown) → IsScript script → IsHonestIn script shown →
    IsAmong (config_shown script shown) shown.delivered (honest_runs script)

-- where no two strings of these runs have one hash, the slots of each honest member that is done hold the message of every
-- honest member
abbrev pub HonestMembersAreServed : Type 0
HonestMembersAreServed = (script : Script) (shown : MemberShown) (slots : List SlotState) → IsScript script →
    NoRunsCollide (honest_runs script) → IsHonestIn script shown → shown.slots ≡ Some slots →
    HasEachMessage (honest_runs script) script.round slots

-- and two of them that are done have one list of slots
abbrev pub DoneMembersAgree : Type 0
DoneMembersAgree = (script : Script) (shown other : MemberShown) (slots others_slots : List SlotState) → IsScript script →
    NoRunsCollide (honest_runs script) → IsHonestIn script shown → IsHonestIn script other → shown.slots ≡ Some slots →
    other.slots ≡ Some others_slots → slots ≡ others_slots

-- whom an honest member blames has no honest run, where besides no string of its transcript collides
abbrev pub BlamedAreFaulty : Type 0
BlamedAreFaulty = (script : Script) (shown : MemberShown) (bytes : List ℕ) (accused : ℕ) (claim : Claim) → IsScript script →
    NoneCollide (script_roster script) (honest_runs script) bytes → IsHonestIn script shown → shown.evidence ≡ Some bytes →
    shown.state ≡ Blamed accused claim → IsFaulty (honest_runs script) script.round accused
