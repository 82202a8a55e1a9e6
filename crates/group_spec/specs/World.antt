-- A group on one queue: members, faulty ones among them, and the posts that are on their way.
use Rattle.std.specs.Prelude.{ℕ, ◌+◌, ◌-◌, ◌*◌, List, [], ◌∷◌, ◌++◌, length, map, drop, replicate, Bool, false, not, ◌&&◌, ◌==◌, nat_le, Option, Some, None, Result, Ok, Err, if◌then◌else◌}
use Rattle.std.specs.List.{flat_map, list_any, sum_by}
use Rattle.std.specs.Fn.{iterate}
use Rattle.wire_core.specs.declared.cursor.Short.{Short}
use Rattle.phase_message.specs.declared.content.Body.TheVariants.{Go}
use Rattle.phase_message.specs.declared.content.Body.{Body}
use Rattle.phase_message.specs.declared.content.Content.{Content}
use Rattle.phase_message.specs.declared.header.Header.{Header}
use Rattle.phase_message.specs.declared.offence.Offence.{Offence}
use Rattle.phase_message.specs.declared.post.Post.{Post}
use Rattle.phase_message.specs.declared.stage.Slot.{Slot}
use Rattle.phase_message.specs.declared.stage.StageKind.{StageKind}
use Rattle.phase_message.specs.declared.stage.StageKind.TheVariants.{Go as AtGo}
use Rattle.phase_message.specs.Grammar.{content_text}
use Rattle.phase_message.specs.Header.{header_of}
use Rattle.phase_message.specs.Offence.{content_read}
use Rattle.phase_message.specs.Post.{post_spelling}
use Rattle.phase_message.specs.Shape.{Shape}
use Rattle.phase_message.specs.Slots.{stage_count}
use Rattle.phase_message.specs.Stages.{kind_of_stage}
use Rattle.lms_tree.specs.Secret.{SecretParts, lms_signature}
use Rattle.round_spec.specs.Embedded.{names_slot}
use Rattle.round_spec.specs.Say.{Configuration, shape_in}
use Rattle.member_spec.specs.Actor.{Actor, actor_after}
use Rattle.round_script.specs.declared.fault.Fault.{Fault}
use Rattle.round_script.specs.declared.fault.Fault.TheVariants.{TwoVotes}
use Rattle.group_spec.specs.Faulty.{faulty_member, faulty_replies}

-- ---- who is there

-- one leaf of a signature key
pub record Leaf : Type 0 where
  pub key : SecretParts
  pub number : ℕ

-- a member: what it enters the round with, its fault, the leaf that signs a second post, and what was delivered to it, in order
pub record Seat : Type 0 where
  pub config : Configuration
  pub fault : Fault
  pub spare : Leaf
  pub delivered : List (List ℕ)

-- what a member is behind its deliveries
abbrev pub actor_of : Seat → Actor
actor_of seat = actor_after (faulty_replies (faulty_member seat.fault seat.config.number)) seat.config seat.delivered

-- a post on its way, with its sender: it goes to all other members between two numbers
pub record Entry : Type 0 where
  pub sender : ℕ
  pub post : Post
  pub first : ℕ
  pub last : ℕ

-- how posts are carried: those of some slots do not arrive, and the others arrive so many times each
pub record Carriage : Type 0 where
  pub drops : List Slot
  pub repeat : ℕ

-- the members, and the posts on their way, of which the first is the next
pub record World : Type 0 where
  pub seats : List Seat
  pub queue : List Entry

-- ---- the entries of posts

-- a content with the other vote
abbrev pub with_other_vote : Header → Body → Option (List ℕ)
with_other_vote header (Go vote) = Some (content_text (record { header = header; body = Go (not vote) }))
with_other_vote header body = None

-- whether a stage is one of the votes of shuffle A
abbrev pub is_first_vote : Option StageKind → Bool
is_first_vote (Some (AtGo shuffle)) = shuffle == 1
is_first_vote _ = false

-- the content with the other vote where a content is a vote of shuffle A
abbrev pub other_vote : Shape → Result Content Offence → Option (List ℕ)
other_vote shape (Ok content) =
    if is_first_vote (kind_of_stage shape content.header.stage) then with_other_vote content.header content.body else None
other_vote shape (Err offence) = None

-- the second content that a fault makes of a post
abbrev pub second_content : Fault → Shape → Post → Option (List ℕ)
second_content TwoVotes shape post = other_vote shape (content_read shape post.content)
second_content _ shape post = None

-- a content signed with a leaf
abbrev pub signed_with : Leaf → List ℕ → Post
signed_with leaf content = record { content = content; signature = lms_signature leaf.key leaf.number content }

-- the entries of a post: one to all others; or, where there is a second content, the post to those with lower numbers, and then
-- the second one to those with greater numbers
abbrev pub entries_with : Seat → Post → Option (List ℕ) → List Entry
entries_with seat post None =
    record { sender = seat.config.number; post = post; first = 1; last = (shape_in seat.config).members } ∷ []
entries_with seat post (Some content) =
    record { sender = seat.config.number; post = post; first = 1; last = seat.config.number - 1 }
    ∷ record {
      sender = seat.config.number;
      post = signed_with seat.spare content;
      first = seat.config.number + 1;
      last =
          (shape_in seat.config).members;
    }
    ∷ []

abbrev pub entries_of : Seat → Post → List Entry
entries_of seat post = entries_with seat post (second_content seat.fault (shape_in seat.config) post)

-- the entries of what a member has posted beyond its first posts, in order
unfoldable pub entries_beyond : ℕ → Seat → List Entry
entries_beyond posts seat = flat_map (entries_of seat) (drop posts (actor_of seat).made)

-- ---- one entry

-- whether a member gets an entry
abbrev pub is_for : ℕ → Entry → Bool
is_for member entry = not (member == entry.sender) && (nat_le entry.first member && nat_le member entry.last)

-- whether a header is of one of some slots
abbrev pub is_of_slots : List Slot → Result Header Short → Bool
is_of_slots slots (Ok header) = list_any (λ slot. names_slot slot header) slots
is_of_slots slots (Err short) = false

-- whether an entry does not arrive
abbrev pub is_dropped : Carriage → Entry → Bool
is_dropped carriage entry = is_of_slots carriage.drops (header_of entry.post.content)

-- a member behind an entry, if that is for it
unfoldable pub seat_behind : Carriage → Entry → Seat → Seat
seat_behind carriage entry seat =
    if is_for seat.config.number entry
    then record seat { delivered = seat.delivered ++ replicate carriage.repeat (post_spelling entry.post) } else seat

-- what a member posts behind an entry
abbrev pub entries_behind : Carriage → Entry → Seat → List Entry
entries_behind carriage entry seat = entries_beyond (length (actor_of seat).made) (seat_behind carriage entry seat)

-- behind the first entry, with the others on their way: all members that get it are asked for their posts in turn
abbrev pub world_behind_entry : Carriage → List Seat → Entry → List Entry → World
world_behind_entry carriage seats entry others =
    if is_dropped carriage entry then record { seats = seats; queue = others }
    else record {
      seats = map (seat_behind carriage entry) seats;
      queue = others ++ flat_map (entries_behind carriage entry) seats;
    }

-- ---- the whole run

-- behind one step, as long as a post is on its way
abbrev pub world_behind_queue : Carriage → World → List Entry → World
world_behind_queue carriage world [] = world
world_behind_queue carriage world (entry ∷ others) = world_behind_entry carriage world.seats entry others

unfoldable pub world_behind_step : Carriage → World → World
world_behind_step carriage world = world_behind_queue carriage world world.queue

-- at the start all members are asked for their posts in turn
unfoldable pub first_world : List Seat → World
first_world seats = record { seats = seats; queue = flat_map (entries_beyond 0) seats }

-- how many steps there can be: a member posts once at each stage at most, and each post takes two entries at most
unfoldable pub greatest_steps : List Seat → ℕ
greatest_steps seats = sum_by (λ (seat : Seat). 2 * stage_count (shape_in seat.config)) seats

-- the world when all is carried
unfoldable pub last_world : Carriage → List Seat → World
last_world carriage seats = iterate (world_behind_step carriage) (greatest_steps seats) (first_world seats)
