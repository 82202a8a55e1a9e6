-- When the members and the queue that the code holds stand for those of a group.
use Rattle.std.specs.Prelude.{◌≡◌, ◌<◌, ◌≤◌, ◌+◌, ◌-◌, ℕ, List, [], ◌∷◌, ◌++◌, length, map, drop, take, min, Option, Some, None, option_map}
use Rattle.std.specs.List.{flat_map, slice_get}
use Rattle.lms_tree.specs.States.{RunState}
use Rattle.phase_message.specs.declared.post.Post.{Post}
use Rattle.phase_message.specs.Post.{post_spelling}
use Rattle.phase_message.specs.Stages.{shape_of}
use Rattle.round_spec.specs.Say.{shape_in}
use Rattle.member_spec.specs.Replies.{Replies}
use Rattle.member_core.specs.Stands.{Stands}
use Rattle.faulty_member.specs.declared.faulty.Faulty.{Faulty}
use Rattle.faulty_member.specs.Given.{faulty_of}
use Rattle.group_spec.specs.Faulty.{faulty_member, faulty_replies}
use Rattle.group_spec.specs.World.{Entry, Leaf, Seat, World, actor_of, entries_beyond, second_content, signed_with}
use Rattle.group_threads.specs.declared.queue.Entry.{Entry as Held}
use Rattle.group_threads.specs.declared.player.Player.{Player}

-- ---- the queue

-- an entry as it is held: its post is written
abbrev pub written_entry : Entry → Held
written_entry entry = record { sender = entry.sender; bytes = post_spelling entry.post; first = entry.first; last = entry.last }

-- the entries of a post of a sender, as they are held, by what is written of it and of the second one
abbrev pub held_entries : ℕ → ℕ → List ℕ → Option (List ℕ) → List Held
held_entries sender members bytes None = record { sender = sender; bytes = bytes; first = 1; last = members } ∷ []
held_entries sender members bytes (Some second) =
    record { sender = sender; bytes = bytes; first = 1; last = sender - 1 }
    ∷ record { sender = sender; bytes = second; first = min (sender + 1) 255; last = members }
    ∷ []

-- what is written of the second post that a member makes of a post
abbrev pub second_written : Seat → Post → Option (List ℕ)
second_written seat post =
    option_map (λ content. post_spelling (signed_with seat.spare content)) (second_content seat.fault (shape_in seat.config) post)

-- ---- members

-- what a faulty member answers
abbrev pub replies_of : Faulty → Replies
replies_of f = faulty_replies (faulty_of f)

-- a run holds just this leaf, or none
pub record IsSpare (leaf : Leaf) (run : RunState) : Type 0 where
  pub most : run.left ≤ 1
  pub key : 1 ≤ run.left → run.parts ≡ leaf.key
  pub number : 1 ≤ run.left → run.first ≡ leaf.number

-- a player stands for a member at its place, of whose posts so many were handed out
pub record Plays (player : Player) (seat : Seat) (count : ℕ) : Type 0 where
  pub stands : Stands replies_of (faulty_replies (faulty_member seat.fault seat.config.number)) seat.config seat.delivered player.member
  pub handed : player.member.holds.handed ≡ count
  pub number : player.number ≡ seat.config.number
  pub shape : shape_of player.shape ≡ shape_in seat.config
  pub fault : player.fault ≡ seat.fault
  pub spare : IsSpare seat.spare player.spare
  pub delivered : player.delivered.items ≡ seat.delivered

-- a player stands for a member, and its entries so far, with those of the posts that are not handed out yet, are all of these
pub record IsSending (player : Player) (held : List Held) (seat : Seat) (all : List Held) : Type 0 where
  pub plays : Plays player seat player.member.holds.handed
  pub left : held ++ map written_entry (entries_beyond player.member.holds.handed seat) ≡ all

-- how many posts a member has made
abbrev pub posts_of : Seat → ℕ
posts_of seat = length (actor_of seat).made

-- players stand for all members, of whose posts so many each were handed out
pub record ArePlayed (players : List Player) (seats : List Seat) (handed : Seat → ℕ) : Type 0 where
  pub count : length players ≡ length seats
  pub each : (k : ℕ) (player : Player) (seat : Seat) → slice_get players k ≡ Some player → slice_get seats k ≡ Some seat →
      Plays player seat (handed seat)

-- as all members have their turn: those before a place have had it, and the entries of these stand behind those that were there
-- first
pub record HaveTurned (turned : Seat → Seat) (was : Seat → ℕ) (out : Seat → List Entry) (seats : List Seat) (players : List Player)
    (first held : List Held) (place : ℕ) : Type 0 where
  pub count : length players ≡ length seats
  pub before : (k : ℕ) (player : Player) (seat : Seat) → k < place → slice_get players k ≡ Some player → slice_get seats k ≡ Some seat →
      Plays player (turned seat) (posts_of (turned seat))
  pub after : (k : ℕ) (player : Player) (seat : Seat) → place ≤ k → slice_get players k ≡ Some player → slice_get seats k ≡ Some seat →
      Plays player seat (was seat)
  pub posted : held ≡ first ++ map written_entry (flat_map out (take place seats))

-- ---- both

-- players and the queue from a place on stand for a world, in which all posts that were made were handed out
pub record IsWorld (players : List Player) (held : List Held) (place : ℕ) (world : World) : Type 0 where
  pub seats : ArePlayed players world.seats posts_of
  pub queue : drop place held ≡ map written_entry world.queue
