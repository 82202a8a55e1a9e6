-- What a group comes to: what is seen of each member when nothing is on its way any more.
use Rattle.std.specs.Prelude.{◌≡◌, ℕ, ◌+◌, List, [], map, Bool, true, false, Option}
use Rattle.std.specs.Fn.{iterate}
use Rattle.bulk_descriptor.specs.declared.slot_state.SlotState.{SlotState}
use Rattle.member_spec.specs.declared.state.State.{State}
use Rattle.member_spec.specs.Outcomes.{evidence_shown, outcome_of, slots_shown, state_of}
use Rattle.round_script.specs.declared.fault.Fault.{Fault}
use Rattle.round_script.specs.declared.fault.Fault.TheVariants.{None as Honest}
use Rattle.group_spec.specs.World.{Carriage, Seat, actor_of, first_world, greatest_steps, last_world, world_behind_step}

-- what is seen of a member: its number, whether it has a fault, how the round stands for it, the slots where it is done, the
-- transcript where it blames somebody, and what was delivered to it
pub record MemberShown : Type 0 where
  pub number : ℕ
  pub faulty : Bool
  pub state : State
  pub slots : Option (List SlotState)
  pub evidence : Option (List ℕ)
  pub delivered : List (List ℕ)

-- whether a fault is one
abbrev pub is_faulty : Fault → Bool
is_faulty Honest = false
is_faulty _ = true

-- what is seen of a member at its place
unfoldable pub shown_of : Seat → MemberShown
shown_of seat = record {
  number = seat.config.number;
  faulty = is_faulty seat.fault;
  state = state_of (outcome_of seat.config (actor_of seat));
  slots = slots_shown (outcome_of seat.config (actor_of seat));
  evidence = evidence_shown (outcome_of seat.config (actor_of seat));
  delivered = seat.delivered;
}

-- what a group comes to, by how posts are carried and by who is there
unfoldable pub group_end : Carriage → List Seat → List MemberShown
group_end carriage seats = map shown_of (last_world carriage seats).seats

-- ---- its run ends

-- when all is carried nothing is on its way
abbrev pub QueuesEmpty : Type 0
QueuesEmpty = (carriage : Carriage) (seats : List Seat) → (last_world carriage seats).queue ≡ []

-- and however many steps more change nothing
abbrev pub RunsEndAlike : Type 0
RunsEndAlike = (carriage : Carriage) (seats : List Seat) (more : ℕ) →
    iterate (world_behind_step carriage) (greatest_steps seats + more) (first_world seats) ≡ last_world carriage seats
