-- The place of a member in a round.
use Rattle.std.specs.Prelude.{◌≡◌, ℕ, List}
use Rattle.phase_message.specs.declared.header.Header.{Header}
use Rattle.phase_message.specs.Stages.{shape_of}
use Rattle.group_roster.specs.Roster.{roster_id}
use Rattle.round_spec.specs.Say.{Configuration, shape_in}
use Rattle.honest_say.specs.declared.seat.Seat.{Seat}

-- the place of the member that enters a round with this
pub record IsSeatOf (c : Configuration) (seat : Seat) : Type 0 where
  pub shape : shape_of seat.shape ≡ shape_in c
  pub group : seat.group ≡ roster_id c.roster
  pub round : seat.round ≡ c.round
  pub number : seat.number ≡ c.number

-- the header of what is said from a place at a stage, with a view
abbrev pub header_at : Seat → ℕ → List ℕ → Header
header_at seat stage view = record {
  version = seat.shape.version;
  group = seat.group;
  round = seat.round;
  stage = stage;
  sender = seat.number;
  view = view;
}
