-- What a crash may leave of a key file, and what all that it may leave keeps.
use Rattle.std.specs.Prelude.{◌≡◌, ◌≢◌, ◌⊎◌, ℕ, ◌<◌, ◌≤◌, List, take, Option, IfSome, IsSomeAnd, Ok}
use Rattle.lms_tree.specs.States.{made_leaves}
use Rattle.key_store.specs.declared.layout.Slot.{Slot}
use Rattle.key_store.specs.declared.layout.Standing.{Standing}
use Rattle.key_store.specs.declared.layout.KeyContent.{KeyContent}
use Rattle.crash_disk.specs.Disk.{IsTorn}
use Rattle.key_store.specs.KeyFiles.{chosen, key_read, slot_at}

-- a slot has both the greater round and the greater next leaf
abbrev pub IsAbove : Slot → Slot → Type 0
IsAbove a b = (b.round < a.round) × (b.next < a.next)

-- of two slots whose gates are not closed, one is above the other
abbrev pub ArePaired : Slot → Slot → Type 0
ArePaired a b = a.gate ≢ 0 → b.gate ≢ 0 → IsAbove a b ⊎ IsAbove b a

abbrev pub IsPaired : List ℕ → Type 0
IsPaired file = ArePaired (slot_at file 64) (slot_at file 96)

-- a key file of the key that `least` is of, with paired slots, which stands for at least the round and the next leaf of `least`
pub record Keeps (least : KeyContent) (file : List ℕ) : Type 0 where
  pub stands : Standing
  pub read : key_read file ≡ Ok record least { kept = stands }
  pub round : least.kept.round ≤ stands.round
  pub next : least.kept.next ≤ stands.next
  pub paired : IsPaired file

-- the same of an image, of which the first 128 bytes are looked at
abbrev pub KeepsFront : KeyContent → List ℕ → Type 0
KeepsFront least image = Keeps least (take 128 image)

-- an image of a file while the slot at `at` is raised: at most the slot's thirteen bytes differ, and it keeps what the file said
pub record IsMidway (least : KeyContent) (at : ℕ) (file image : List ℕ) : Type 0 where
  pub beside : IsTorn file at 13 image
  pub keeps : KeepsFront least image

-- A file behind a raise for so many leaves that broke off, which said `content`: at most the thirteen bytes of the slot that
-- was chosen differ; and where its slots were paired, and a leaf was asked for, it is a key file of the same key, with paired
-- slots, which stands for no less than before.
pub record IsHalfRaised (content : KeyContent) (leaves : ℕ) (file now : List ℕ) : Type 0 where
  pub beside : IsTorn file (chosen (made_leaves content.height) (take 128 file)) 13 now
  pub keeps : 0 < leaves → IsPaired (take 128 file) → KeepsFront content now

-- the same of a disk that tells its file, and goes on to tell it
abbrev pub LeavesHalfRaised : Option (List ℕ) → Option (List ℕ) → KeyContent → (leaves : ℕ) → Type 0
LeavesHalfRaised told now content leaves = IfSome told (λ file. IsSomeAnd now (IsHalfRaised content leaves file))

-- a slot may be raised to this round and next leaf: the file was read, its slots are paired, the slot is the chosen one,
-- and both numbers are greater than those that the file stands for
pub record IsRise (content : KeyContent) (file : List ℕ) (at round next : ℕ) : Type 0 where
  pub read : key_read file ≡ Ok content
  pub paired : IsPaired file
  pub place : at ≡ chosen (made_leaves content.height) file
  pub later : content.kept.round < round
  pub higher : content.kept.next < next
  pub enough : next ≤ made_leaves content.height
