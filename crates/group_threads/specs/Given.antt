-- A group of the program, as definitions see it.
use Rattle.std.specs.Prelude.{◌≡◌, ◌≤◌, ◌+◌, ℕ, List, [], ◌∷◌, length, map, All}
use Rattle.std.specs.List.{range_with_len}
use Rattle.lms_tree.specs.States.{RunState}
use Rattle.bulk_descriptor.specs.declared.making.TheConstants.{MESSAGE_LIMIT}
use Rattle.group_roster.specs.Given.{roster_of}
use Rattle.member_parts.specs.declared.config.Config.{Config}
use Rattle.member_core.specs.Stands.{configuration_of}
use Rattle.round_script.specs.declared.fault.Fault.{Fault}
use Rattle.group_spec.specs.Driver.{MemberShown}
use Rattle.group_spec.specs.World.{Seat}
use Rattle.group_threads.specs.declared.ending.GroupEnd.{GroupEnd}
use Rattle.group_spec.specs.declared.ending.MemberEnd.{MemberEnd}

-- ---- what a group begins with

-- a member with its leaves, its spare leaf and its fault, before anything was delivered to it
abbrev pub seat_of : Config → RunState → RunState → Fault → Seat
seat_of config leaves spare fault = record {
  config = configuration_of config leaves;
  fault = fault;
  spare = record { key = spare.parts; number = spare.first };
  delivered = [];
}

-- all members, as many as have all four
abbrev pub seats_of : List Config → List RunState → List RunState → List Fault → List Seat
seats_of (config ∷ configs) (leaves ∷ runs) (spare ∷ spares) (fault ∷ faults) =
    seat_of config leaves spare fault ∷ seats_of configs runs spares faults
seats_of _ _ _ _ = []

-- members of one group and round, by number, with messages that can be sent; each has twelve leaves or more, one spare leaf
-- and a fault
pub record IsGroup (configs : List Config) (leaves spare : List RunState) (faults : List Fault) : Type 0 where
  pub least : 1 ≤ length configs
  pub numbers : map (λ (c : Config). c.number) configs ≡ range_with_len 1 (length configs)
  pub rosters : All (λ (c : Config). All (λ (other : Config). roster_of c.roster ≡ roster_of other.roster) configs) configs
  pub rounds : All (λ (c : Config). All (λ (other : Config). c.round ≡ other.round) configs) configs
  pub all : All (λ (c : Config). length c.roster.keys ≡ length configs) configs
  pub messages : All (λ (c : Config). length c.message ≤ MESSAGE_LIMIT) configs
  pub runs : length leaves ≡ length configs
  pub enough : All (λ (run : RunState). 12 ≤ run.left) leaves
  pub spares : length spare ≡ length configs
  pub single : All (λ (run : RunState). run.left ≡ 1) spare
  pub faulty : length faults ≡ length configs

-- ---- what it ends with

-- what is seen of a member, without its deliveries
abbrev pub end_shown : MemberShown → MemberEnd
end_shown shown = record {
  number = shown.number;
  faulty = shown.faulty;
  state = shown.state;
  slots = shown.slots;
  evidence = shown.evidence;
}

-- what is seen of a group at the end
pub record ShowsGroup (shown : List MemberShown) (end : GroupEnd) : Type 0 where
  pub members : end.members ≡ map end_shown shown
  pub deliveries : end.deliveries ≡ map (λ (s : MemberShown). s.delivered) shown
