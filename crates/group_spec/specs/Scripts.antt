-- The group of a script: its keys and all that is fresh are drawn from the seed of the script.
use Rattle.std.specs.Prelude.{ℕ, ◌-◌, List, [], ◌∷◌, length, map, ◌==◌, slice_index_or, unwrap_or, if◌then◌else◌}
use Rattle.std.specs.List.{range_with_len}
use Rattle.wire_core.specs.declared.tag.Tag.TheVariants.{ScriptFresh, ScriptKey}
use Rattle.wire_core.specs.Hash.{hash_of}
use Rattle.lm_ots.specs.declared.types.OtsType.TheVariants.{W4}
use Rattle.lms_tree.specs.declared.keys.LmsType.TheVariants.{H5}
use Rattle.lms_tree.specs.Secret.{SecretParts, own_public, parts_of_master}
use Rattle.lms_tree.specs.Tree.{key_bytes}
use Rattle.group_roster.specs.Roster.{Roster}
use Rattle.round_spec.specs.Say.{Configuration}
use Rattle.round_script.specs.declared.fault.Fault.{Fault}
use Rattle.round_script.specs.declared.fault.Fault.TheVariants.{None as Honest}
use Rattle.round_script.specs.declared.script.FaultLine.{FaultLine}
use Rattle.round_script.specs.declared.script.Script.{Script}
use Rattle.group_spec.specs.Driver.{MemberShown, group_end}
use Rattle.group_spec.specs.World.{Carriage, Seat}

-- the leaves that a member may use in a round: the one behind them is spare
abbrev pub LEAVES : ℕ
LEAVES = 12

-- the signature key of a member, of which no leaf has been used
abbrev pub script_key : Script → ℕ → SecretParts
script_key script member = parts_of_master H5 W4 (hash_of ScriptKey (script.seed ∷ (member ∷ []) ∷ []))

-- the numbers of all members
abbrev pub script_members : Script → List ℕ
script_members script = range_with_len 1 (length script.messages)

-- the roster of the group
abbrev pub script_roster : Script → Roster
script_roster script = record {
  version = 1;
  keys = map (λ member. key_bytes (own_public (script_key script member)))
      (script_members script);
}

-- what a member enters the round with
abbrev pub script_configuration : Script → ℕ → Configuration
script_configuration script member = record {
  roster = script_roster script;
  number = member;
  round = script.round;
  fresh = hash_of ScriptFresh (script.seed ∷ (member ∷ []) ∷ []);
  message = slice_index_or script.messages (member - 1) [];
  key = script_key script member;
  first = 0;
}

-- the fault of a member: that of its line, if it has one
abbrev pub fault_in : List FaultLine → ℕ → Fault
fault_in [] member = Honest
fault_in (line ∷ lines) member = if line.member == member then line.fault else fault_in lines member

-- a member at its place
abbrev pub script_seat : Script → ℕ → Seat
script_seat script member = record {
  config = script_configuration script member;
  fault = fault_in script.faults member;
  spare = record { key = script_key script member; number = LEAVES };
  delivered = [];
}

-- how posts are carried: each arrives once where the script does not say how often
abbrev pub script_carriage : Script → Carriage
script_carriage script = record { drops = script.drops; repeat = unwrap_or script.repeat 1 }

-- what the group of a script comes to
unfoldable pub script_end : Script → List MemberShown
script_end script = group_end (script_carriage script) (map (script_seat script) (script_members script))
