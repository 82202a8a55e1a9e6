-- Where the strings that members of a group get come from.
use Rattle.std.specs.Prelude.{◌≡◌, ℕ, List, [], Contains, true}
use Rattle.phase_message.specs.Post.{post_spelling}
use Rattle.group_spec.specs.World.{Carriage, Entry, Seat, entries_beyond, is_for, last_world}

-- a string is a post of a sender, or the second one that its fault makes of a post, and goes to a receiver
pub record ComesFrom (sender receiver : Seat) (bytes : List ℕ) : Type 0 where
  pub entry : Entry
  pub posted : Contains (entries_beyond 0 sender) entry
  pub goes : is_for receiver.config.number entry ≡ true
  pub spelled : bytes ≡ post_spelling entry.post

-- all that was delivered to each member comes from members
abbrev pub ArePosted : List Seat → Type 0
ArePosted seats = (receiver : Seat) (bytes : List ℕ) → Contains seats receiver → Contains receiver.delivered bytes →
    (sender : Seat) × Contains seats sender × ComesFrom sender receiver bytes

-- so it is at the end, where nothing was delivered at the start
abbrev pub DeliveriesWerePosted : Type 0
DeliveriesWerePosted = (carriage : Carriage) (seats : List Seat) → ((seat : Seat) → Contains seats seat → seat.delivered ≡ []) →
    ArePosted (last_world carriage seats).seats
