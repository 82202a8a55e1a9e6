-- When an accusation holds. Slots and members count from 1.
use Rattle.std.specs.Prelude.{◌≡◌, ◌≢◌, ℕ, ◌-◌, ◌≤◌, List, [], ◌∷◌, length, not, ◌&&◌, nat_le, slice_index_or, Option, Some, None, if◌then◌else◌}
use Rattle.std.specs.Str.{bytes_eq}
use Rattle.wire_core.specs.Answers.{first_some, fault_unless}
use Rattle.pad_stream.specs.Stream.{pad_of}
use Rattle.ring_encrypt.specs.Capsule.{capsule_of}
use Rattle.transcript_form.specs.declared.accusation.Accusation.{Accusation}
use Rattle.bulk_descriptor.specs.Descriptor.{Description, hash_of_pad, pad_hash_for, capsule_for}
use Rattle.accusation.specs.declared.holding.AccusationRefusal.{AccusationRefusal}
use Rattle.accusation.specs.declared.holding.AccusationRefusal.TheVariants.{Slot, Member, Capsule, PadHash, PadSent}

-- the descriptor of a slot, if it is one of the slots and holds one
abbrev pub descriptor_at : List (Option Description) → ℕ → Option Description
descriptor_at descriptors slot = if nat_le 1 slot then slice_index_or descriptors (slot - 1) None else None

-- the key of a member
abbrev pub key_for : List (List ℕ) → ℕ → List ℕ
key_for keys member = slice_index_or keys (member - 1) []

-- the pad that a member sent for a slot
abbrev pub pad_sent : List (List (List ℕ)) → ℕ → ℕ → List ℕ
pad_sent table member slot = slice_index_or (slice_index_or table (member - 1) []) (slot - 1) []

-- the seed is the one that was sealed for the member, its pad has the hash that the descriptor gives, and the member
-- sent another pad: the first of these that fails
unfoldable pub seed_refusal : Description → ℕ → List ℕ → List ℕ → List ℕ → Option AccusationRefusal
seed_refusal d member seed key sent =
    first_some (fault_unless (bytes_eq (capsule_for d member) (capsule_of key seed)) Capsule
    ∷ fault_unless (bytes_eq (hash_of_pad (pad_of seed d.length)) (pad_hash_for d member)) PadHash
    ∷ fault_unless (not (bytes_eq sent (pad_of seed d.length))) PadSent
    ∷ [])

-- the same, of a member that is one of those who have keys
abbrev pub refusal_by : Option Description → Accusation → List (List (List ℕ)) → List (List ℕ) → Option AccusationRefusal
refusal_by None a table keys = Some Slot
refusal_by (Some d) a table keys =
    if nat_le 1 a.member && nat_le a.member (length keys)
    then seed_refusal d a.member a.seed (key_for keys a.member) (pad_sent table a.member a.slot)
    else Some Member

-- The first reason why an accusation does not hold, by the descriptors of the slots, the pads that were sent and
-- the members' keys
unfoldable pub refusal_of : Accusation → List (Option Description) → List (List (List ℕ)) → List (List ℕ) → Option AccusationRefusal
refusal_of a descriptors table keys = refusal_by (descriptor_at descriptors a.slot) a table keys

-- an accusation against a descriptor holds
pub record HoldsOf (d : Description) (a : Accusation) (table : List (List (List ℕ))) (keys : List (List ℕ)) : Type 0 where
  pub first : 1 ≤ a.member
  pub last : a.member ≤ length keys
  pub sealed : capsule_for d a.member ≡ capsule_of (key_for keys a.member) a.seed
  pub hash : hash_of_pad (pad_of a.seed d.length) ≡ pad_hash_for d a.member
  pub other : pad_sent table a.member a.slot ≢ pad_of a.seed d.length

-- an accusation holds: its slot has a descriptor, against which it holds
abbrev pub Holds : Accusation → List (Option Description) → List (List (List ℕ)) → List (List ℕ) → Type 0
Holds a descriptors table keys = (d : Description) × (descriptor_at descriptors a.slot ≡ Some d) × HoldsOf d a table keys
