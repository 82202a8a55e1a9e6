-- What is true of each member between its calls.
use Rattle.std.specs.Prelude.{◌≡◌, ℕ, ◌+◌, ◌≤◌, ◌<◌, ◌^◌, List, length, Option, Some, None, IfSome, IsSome, IsTrue}
use Rattle.std.specs.Option.{option_map}
use Rattle.phase_message.specs.declared.post.Post.{Post}
use Rattle.phase_message.specs.declared.stage.Slot.{Slot}
use Rattle.phase_message.specs.Shape.{Shape}
use Rattle.phase_message.specs.Slots.{stage_count}
use Rattle.phase_message.specs.Stages.{is_slot, kind_of_stage, shape_of}
use Rattle.group_roster.specs.Given.{roster_of}
use Rattle.group_roster.specs.Roster.{Roster}
use Rattle.stage_log.specs.Log.{before}
use Rattle.stage_log.specs.Seen.{HasSeen}
use Rattle.stage_log.specs.Table.{IsLog, Log, kept_in}
use Rattle.go_nogo.specs.Stands.{StandAll}
use Rattle.shuffle_blame.specs.Asked.{past_of}
use Rattle.bulk_descriptor.specs.declared.making.TheConstants.{MESSAGE_LIMIT}
use Rattle.bulk_descriptor.specs.Descriptor.{own_pad}
use Rattle.round_spec.specs.Say.{Configuration, own_pad_seeds}
use Rattle.honest_say.specs.declared.group_keys.GroupKeys.{GroupKeys}
use Rattle.honest_say.specs.declared.seat.Seat.{Seat}
use Rattle.honest_say.specs.Seats.{IsSeatOf}
use Rattle.closing_verdict.specs.Carried.{AreKeysOf, CarriesOpened, CarriesSlots, stage_found, stage_opened}
use Rattle.member_spec.specs.declared.mood.Mood.{Mood}
use Rattle.member_spec.specs.declared.mood.Mood.TheVariants.{Unasked, PutOff, Spoken, Mute}
use Rattle.member_spec.specs.Replies.{HasSlot}
use Rattle.member_parts.specs.Endings.{IsOpen}
use Rattle.member_parts.specs.declared.secrets.Secrets.{Secrets}
use Rattle.member_parts.specs.Secrets.{AreSecretsOf}
use Rattle.member_core.specs.declared.machine.Machine.{Machine}
use Rattle.member_core.specs.Membership.{holdings_of, posts_made}
use Rattle.member_core.specs.Needs.{HoldsNeeded}
use Rattle.member_core.specs.Shorts.{IsShortLog, own_limit}

-- ---- always

-- these are what a member that entered with this holds: its group, its place, its message, secrets of its fresh bytes, and
-- the pad that it sends itself, of some message of at most 65,536 bytes
pub record IsHeldOf (c : Configuration) (group : Roster) (place : Seat) (text : List ℕ) (held : Secrets) (sent : List ℕ) : Type 0 where
  pub roster : group ≡ c.roster
  pub seat : IsSeatOf c place
  pub message : text ≡ c.message
  pub secrets : AreSecretsOf c held
  pub hidden : List ℕ
  pub hidden_short : length hidden ≤ MESSAGE_LIMIT
  pub pad : sent ≡ own_pad (own_pad_seeds c) c.number hidden

-- the code holds them
abbrev pub IsMachineOf : Configuration → Machine → Type 0
IsMachineOf c m = IsHeldOf c (roster_of m.roster) m.seat m.message m.secrets m.own.pad

-- some member entered so; the log is one of the round, with posts that stand in their slots and are not too long; there
-- is a leaf for each own slot without a post; no post was handed out that was not made; and that which it does not keep can
-- be written
pub record IsFormed (m : Machine) : Type 0 where
  pub entered : (c : Configuration) × IsMachineOf c m
  pub message : length m.message ≤ MESSAGE_LIMIT
  pub log : IsLog m.log
  pub shape : m.log.shape ≡ shape_of m.seat.shape
  pub stand : StandAll m.log
  pub short : IsShortLog m.seat.number m.log
  pub leaves : 12 ≤ m.leaves.left + length (posts_made (holdings_of m))
  pub handed : m.handed ≤ length (posts_made (holdings_of m))
  pub stray : IfSome m.stray (λ (post : Post). length post.content < 2 ^ 32)

-- ---- while the round is open

-- the own slot at the stage that is being filled
abbrev pub slot_here : Machine → Slot
slot_here m = record { stage = m.stage; sender = m.seat.number }

-- a log keeps nothing of a member from a stage on
abbrev pub IsEmptyFrom : Log → ℕ → ℕ → Type 0
IsEmptyFrom log number stage =
    (later : ℕ) → stage ≤ later → kept_in log (record { stage = later; sender = number }) ≡ None

-- bytes name a slot where its member speaks, and are not too long there
pub record AreOfSlot (shape : Shape) (place : Slot) (bytes : List ℕ) : Type 0 where
  pub speaks : IsTrue (is_slot shape place.stage place.sender)
  pub slot : HasSlot place bytes
  pub short : length bytes ≤ own_limit (kind_of_stage shape place.stage)

-- bytes that were put off are of the own slot
abbrev pub IsPutOff : Machine → List ℕ → Type 0
IsPutOff m bytes = AreOfSlot m.log.shape (slot_here m) bytes

-- what a mood says: where the member has not spoken, its slots from the stage on are empty; where it has, its slots behind
-- are, and its post is there; only a mute member may have made a post that it does not keep.
abbrev pub IsMoodOf : Machine → Mood → Type 0
IsMoodOf m Unasked = IsEmptyFrom m.log m.seat.number m.stage × (m.stray ≡ None)
IsMoodOf m (PutOff bytes) = IsEmptyFrom m.log m.seat.number m.stage × (m.stray ≡ None) × IsPutOff m bytes
IsMoodOf m Spoken = IsEmptyFrom m.log m.seat.number (m.stage + 1) × (m.stray ≡ None) × IsSome (kept_in m.log (slot_here m))
IsMoodOf m Mute = IsEmptyFrom m.log m.seat.number m.stage × IsTrue (is_slot m.log.shape m.stage m.seat.number)

-- the keys that all members said are carried behind the first stage
abbrev pub CarriesKeys : Log → ℕ → Option GroupKeys → Type 0
CarriesKeys log stage None = stage ≡ 0
CarriesKeys log stage (Some keys) = AreKeysOf log keys

-- all stages before the one that is being filled are complete, they were seen, and what was found of them is carried from
-- then on
pub record IsReady (m : Machine) : Type 0 where
  pub stage : m.stage ≤ stage_count m.log.shape
  pub past : IsSome (before m.log m.stage)
  pub seen : HasSeen m.log.shape (past_of m.log m.stage) m.stage m.seen
  pub keys : CarriesKeys m.log m.stage m.keys
  pub opened : CarriesOpened m.log m.stage (option_map (λ items. items.items) m.opened)
  pub slots : CarriesSlots m.log m.stage m.slots
  pub keys_behind : IsSome m.keys → 1 ≤ m.stage
  pub opened_behind : IsSome m.opened → stage_opened m.log ≤ m.stage
  pub slots_behind : IsSome m.slots → stage_found m.log ≤ m.stage
  pub mood : IsMoodOf m m.mood

-- ---- both

-- a member is formed, it is ready to go on while its round is open, and it holds just the secrets that it needs
pub record IsSound (m : Machine) : Type 0 where
  pub formed : IsFormed m
  pub ready : IsOpen m.ending → IsReady m
  pub needed : HoldsNeeded (holdings_of m)
