-- What is promised to each honest member of the group of a script.
use Rattle.std.specs.Prelude.{◌≡◌, ◌≢◌, ◌↔◌, false, All, Contains, IfSome, IsSome}
use Rattle.wire_core.specs.Bytes.{IsBytes}
use Rattle.member_spec.specs.declared.state.State.TheVariants.{Done, Stopped}
use Rattle.member_spec.specs.Outcomes.{evidence_shown, slots_shown, state_of}
use Rattle.member_core.specs.Promises.{HoldsMessages, IsEvidence, IsOneList, KeepsPromise}
use Rattle.round_spec.specs.Result.{result_of}
use Rattle.round_spec.specs.Say.{Configuration}
use Rattle.round_script.specs.declared.script.Script.{Script}
use Rattle.round_script.specs.Script.{IsScript}
use Rattle.group_spec.specs.Driver.{MemberShown}
use Rattle.group_spec.specs.Scripts.{script_configuration, script_end}
use Rattle.group_laws.specs.Entering.{IsMemberOf}

-- what the member that is shown entered the round with
abbrev pub config_shown : Script → MemberShown → Configuration
config_shown script shown = script_configuration script shown.number

-- a member is shown at the end of a script's group, and has no fault
pub record IsHonestIn (script : Script) (shown : MemberShown) : Type 0 where
  pub listed : Contains (script_end script) shown
  pub honest : shown.faulty ≡ false

-- what is shown of it is the result of what was delivered to it, and is not that it stopped; its state keeps the promise of a
-- plain member: it names who is missed, holds each honest message, or convicts a faulty one
pub record KeepsItsPromise (script : Script) (shown : MemberShown) : Type 0 where
  pub member : IsMemberOf script shown.number
  pub bytes : All IsBytes shown.delivered
  pub result : shown.state ≡ state_of (result_of (config_shown script shown) shown.delivered)
  pub slots_are : shown.slots ≡ slots_shown (result_of (config_shown script shown) shown.delivered)
  pub evidence_is : shown.evidence ≡ evidence_shown (result_of (config_shown script shown) shown.delivered)
  pub runs : shown.state ≢ Stopped
  pub done : (shown.state ≡ Done) ↔ IsSome shown.slots
  pub promise : KeepsPromise (config_shown script shown) shown.delivered shown.state
  pub messages : IfSome shown.slots (HoldsMessages (config_shown script shown) shown.delivered)
  pub one_list : IfSome shown.slots (IsOneList (config_shown script shown) shown.delivered)
  pub convicts : IfSome shown.evidence (IsEvidence (config_shown script shown) shown.delivered shown.state)

-- so does each honest member of the group of every script, whoever is faulty, whatever is lost and however often posts arrive
abbrev pub MembersKeepTheirPromise : Type 0
MembersKeepTheirPromise = (script : Script) (shown : MemberShown) → IsScript script → IsHonestIn script shown →
    KeepsItsPromise script shown

-- and all that is delivered in such a group is bytes, to faulty members too
abbrev pub DeliveriesAreBytes : Type 0
DeliveriesAreBytes = (script : Script) (shown : MemberShown) → IsScript script → Contains (script_end script) shown →
    All IsBytes shown.delivered
