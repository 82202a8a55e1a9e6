-- That each member of the group of a script enters the round as an honest one can.
use Rattle.std.specs.Prelude.{◌≡◌, ℕ, ◌<◌, ◌≤◌, length}
use Rattle.lms_tree.specs.Secret.{leaves}
use Rattle.round_spec.specs.Runs.{IsConfiguration}
use Rattle.round_script.specs.declared.script.Script.{Script}
use Rattle.round_script.specs.Script.{IsScript}
use Rattle.group_spec.specs.Scripts.{LEAVES, script_configuration, script_key, script_roster}

-- a number is that of a member of a script
pub record IsMemberOf (script : Script) (member : ℕ) : Type 0 where
  pub first : 1 ≤ member
  pub last : member ≤ length script.messages

-- such a member can be honest in the round: it can enter it with its twelve leaves, and the roster has its key under its
-- number; the leaf that its fault may sign with is left behind these; and it has the roster of all
pub record EntersRound (script : Script) (member : ℕ) : Type 0 where
  pub config : IsConfiguration (script_configuration script member)
  pub spare : LEAVES < leaves (script_key script member)
  pub roster : (script_configuration script member).roster ≡ script_roster script

-- so does each member of every script
abbrev pub ScriptsEnter : Type 0
ScriptsEnter = (script : Script) (member : ℕ) → IsScript script → IsMemberOf script member → EntersRound script member
