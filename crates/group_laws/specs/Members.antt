-- Who is shown of the group of a script: its members, and who of them has a fault.
use Rattle.std.specs.Prelude.{◌≡◌, ℕ, List, Contains, map}
use Rattle.round_script.specs.declared.script.Script.{Script}
use Rattle.round_script.specs.Script.{IsScript}
use Rattle.group_spec.specs.Driver.{MemberShown, is_faulty}
use Rattle.group_spec.specs.Scripts.{fault_in, script_end, script_members}

-- the numbers of those that are shown
abbrev pub numbers_shown : Script → List ℕ
numbers_shown script = map (λ (shown : MemberShown). shown.number) (script_end script)

-- a member is shown as faulty exactly where the script gives it a fault
abbrev pub IsFaultyAsSaid : Script → MemberShown → Type 0
IsFaultyAsSaid script shown = shown.faulty ≡ is_faulty (fault_in script.faults shown.number)

-- the members of every script are shown, each once, by number
abbrev pub MembersAreShown : Type 0
MembersAreShown = (script : Script) → IsScript script → numbers_shown script ≡ script_members script

-- of each that is shown, whether the script gives it a fault
abbrev pub FaultsAreShown : Type 0
FaultsAreShown = (script : Script) (shown : MemberShown) → IsScript script → Contains (script_end script) shown →
    IsFaultyAsSaid script shown
