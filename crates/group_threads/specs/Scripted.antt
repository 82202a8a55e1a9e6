-- What the group of a script is made of.
use Rattle.std.specs.Prelude.{ℕ, ◌+◌, ◌-◌, List, [], ◌∷◌, slice_index_or}
use Rattle.wire_core.specs.declared.tag.Tag.TheVariants.{ScriptFresh}
use Rattle.wire_core.specs.Hash.{hash_of}
use Rattle.lms_tree.specs.States.{RunState, SecretState}
use Rattle.group_roster.specs.Given.{roster_of}
use Rattle.group_roster.specs.Roster.{Roster}
use Rattle.round_script.specs.declared.script.Script.{Script}
use Rattle.group_spec.specs.Scripts.{LEAVES, script_key}
use Rattle.member_parts.specs.declared.config.Config.{Config}

-- what a member enters a round with, without its leaves
pub record Entrance : Type 0 where
  pub roster : Roster
  pub number : ℕ
  pub round : ℕ
  pub fresh : List ℕ
  pub message : List ℕ

abbrev pub entrance_of : Config → Entrance
entrance_of c = record { roster = roster_of c.roster; number = c.number; round = c.round; fresh = c.fresh; message = c.message }

-- that of a member of a script
abbrev pub script_entrance : Script → Roster → ℕ → Entrance
script_entrance script roster member = record {
  roster = roster;
  number = member;
  round = script.round;
  fresh = hash_of ScriptFresh (script.seed ∷ (member ∷ []) ∷ []);
  message = slice_index_or script.messages (member - 1) [];
}

-- the secret of a member of a script: no leaf of it has been used
abbrev pub script_secret : Script → ℕ → SecretState
script_secret script member = record { parts = script_key script member; next = 0 }

-- the leaves of a round, and the spare one behind them
abbrev pub leaves_of : SecretState → RunState
leaves_of key = record { parts = key.parts; first = key.next; left = LEAVES }

abbrev pub spare_of : SecretState → RunState
spare_of key = record { parts = key.parts; first = key.next + LEAVES; left = 1 }
