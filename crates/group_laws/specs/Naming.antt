-- Whom the line of a member names while its round is open.
use Rattle.std.specs.Prelude.{◌≡◌, ℕ, ◌<◌, ◌≤◌, ◌++◌, List, All, AllPairs, codes, decimal, map}
use Rattle.std.specs.List.{join_with_byte}
use Rattle.accountability.specs.Naming.{NamesMissed}
use Rattle.member_spec.specs.declared.state.State.TheVariants.{Waiting}
use Rattle.member_spec.specs.Outcomes.{bits_of}
use Rattle.round_script.specs.declared.script.Script.{Script}
use Rattle.round_script.specs.Script.{IsScript}
use Rattle.group_report.specs.Report.{listed_members, state_words}
use Rattle.group_spec.specs.Driver.{MemberShown}
use Rattle.group_laws.specs.Promises.{IsHonestIn, config_shown}

-- the numbers of members in decimal digits, with a comma between each two
abbrev pub numbers_text : List ℕ → List ℕ
numbers_text members = join_with_byte 44 (map decimal members)

-- of ascending members from 1 to 8 the bits list just these
abbrev pub BitsListMembers : Type 0
BitsListMembers = (members : List ℕ) → AllPairs (λ member later. member < later) members →
    All (λ member. (1 ≤ member) × (member ≤ 8)) members → listed_members (bits_of members) ≡ numbers_text members

-- the words for a member are that it waits at a stage, and the numbers of exactly those that are missed there
pub record PrintsMissed (script : Script) (shown : MemberShown) (stage : ℕ) : Type 0 where
  pub named : List ℕ
  pub missed : NamesMissed (config_shown script shown) shown.delivered stage named
  pub words : state_words shown.state ≡ codes "open stage " ++ decimal stage ++ codes " missing " ++ numbers_text named

-- so it is with each honest member of the group of every script that is open
abbrev pub OpenMembersPrintMissed : Type 0
OpenMembersPrintMissed = (script : Script) (shown : MemberShown) (stage bits : ℕ) → IsScript script → IsHonestIn script shown →
    shown.state ≡ Waiting stage bits → PrintsMissed script shown stage
