-- Key files: what 128 bytes say, what they stand for, and what is written into them.
--
--    0  "DSKF"
--    4  version, 1
--    5  LMS type, four bytes: 5 or 6
--    9  LM-OTS type, four bytes: 1 to 4
--   13  I, 16 bytes
--   29  SEED, 32 bytes
--   61  three bytes, which nobody reads
--   64  slot 0: gate, a byte; round, eight bytes; next, four bytes
--   96  slot 1: the same
--
-- Numbers are big endian.
use Rattle.std.specs.Prelude.{◌≡◌, ◌==◌, ◌&&◌, ◌||◌, ℕ, ◌+◌, ◌⊎◌, max, Bool, List, [], ◌∷◌, ◌++◌, length, take, drop, replicate, slice_index, nat_lt, nat_le, if◌then◌else◌, Option, Some, None, IfSome, Result, Ok, Err}
use Rattle.std.specs.Int.{w32, w64, to_be_bytes, from_be_bytes}
use Rattle.wire_core.specs.Reading.{◌>>=◌}
use Rattle.lm_ots.specs.declared.types.OtsType.{OtsType}
use Rattle.lm_ots.specs.OneTime.{type_number, type_of_number}
use Rattle.lms_tree.specs.declared.secrets.MadeHeight.{MadeHeight}
use Rattle.lms_tree.specs.declared.secrets.MadeHeight.TheVariants.{H5, H10}
use Rattle.lms_tree.specs.Tree.{tree_number}
use Rattle.lms_tree.specs.Secret.{SecretParts, parts_of_master}
use Rattle.lms_tree.specs.States.{made_leaves, made_type}
use Rattle.key_store.specs.declared.layout.Slot.{Slot}
use Rattle.key_store.specs.declared.layout.Standing.{Standing}
use Rattle.key_store.specs.declared.layout.KeyContent.{KeyContent}
use Rattle.crash_disk.specs.Disk.{IsTorn, Only, overwritten}

-- ---- numbers and parts at their offsets

-- so many bytes from `at` on
unfoldable pub part : List ℕ → (at size : ℕ) → List ℕ
part file at size = take size (drop at file)

-- the number of four bytes, and of eight
unfoldable pub word_at : List ℕ → ℕ → ℕ
word_at file at = from_be_bytes w32 (part file at 4)

unfoldable pub long_at : List ℕ → ℕ → ℕ
long_at file at = from_be_bytes w64 (part file at 8)

-- ---- slots

unfoldable pub slot_at : List ℕ → ℕ → Slot
slot_at file at = record { gate = slice_index file at; round = long_at file (at + 1); next = word_at file (at + 9) }

-- a slot is valid where its gate is open and its next leaf is one of the tree's, or the place behind the last
abbrev pub is_valid : (leaves : ℕ) → Slot → Bool
is_valid leaves slot = slot.gate == 1 && nat_le slot.next leaves

-- what a slot counts for: nothing where it is not valid
abbrev pub counted : (leaves : ℕ) → Slot → Standing
counted leaves slot =
    if is_valid leaves slot then record { round = slot.round; next = slot.next } else record { round = 0; next = 0 }

-- the greatest round and the greatest next leaf
abbrev pub greatest : Standing → Standing → Standing
greatest a b = record { round = max a.round b.round; next = max a.next b.next }

-- what a file stands for
unfoldable pub stands : (leaves : ℕ) → List ℕ → Standing
stands leaves file = greatest (counted leaves (slot_at file 64)) (counted leaves (slot_at file 96))

-- ---- the test of a file

-- "DSKF"
abbrev pub magic : ℕ
magic = 0x4453_4b46

abbrev pub made_of_number : ℕ → Option MadeHeight
made_of_number n = if n == 5 then Some H5 else (if n == 6 then Some H10 else None)

-- a value that is there, or this fault
abbrev pub known : {A : Type 0} → Option A → ℕ → Result A ℕ
known (Some x) at = Ok x
known None at = Err at

-- a field of a file of `have` bytes: where it is cut or missing, the file is refused at its end, and where the field
-- is wrong, at its place
abbrev pub field : {A : Type 0} → (have at size : ℕ) → Option A → Result A ℕ
field have at size value = if nat_lt have (at + size) then Err have else known value at

-- nothing but that a test passes
abbrev pub expected : Bool → Option (Unit {0})
expected b = if b then Some tt else None

-- the fields before I, in a file of `have` bytes, of which the whole has 128
abbrev pub head_of : (have first version lms ots : ℕ) → Result (MadeHeight × OtsType) ℕ
head_of have first version lms ots = do
  _ ← field have 0 4 (expected (first == magic))
  _ ← field have 4 1 (expected (version == 1))
  height ← field have 5 4 (made_of_number lms)
  width ← field have 9 4 (type_of_number ots)
  if nat_lt have 128 then Err have else Ok (height, width)

unfoldable pub head_read : List ℕ → Result (MadeHeight × OtsType) ℕ
head_read file = head_of (length file) (word_at file 0) (slice_index file 4) (word_at file 5) (word_at file 9)

-- some slot is valid
abbrev pub has_valid : (leaves : ℕ) → List ℕ → Bool
has_valid leaves file = is_valid leaves (slot_at file 64) || is_valid leaves (slot_at file 96)

-- what a file with these types says
abbrev pub content_of : MadeHeight × OtsType → List ℕ → KeyContent
content_of types file = record {
  height = types.0;
  width = types.1;
  identifier = part file 13 16;
  seed = part file 29 32;
  kept = stands (made_leaves types.0) file;
}

abbrev pub with_slots : List ℕ → MadeHeight × OtsType → Result KeyContent ℕ
with_slots file types = if has_valid (made_leaves types.0) file then Ok (content_of types file) else Err 64

-- what a key file says, or the first place at which the bytes are none
unfoldable pub key_read : List ℕ → Result KeyContent ℕ
key_read file = head_read file >>= with_slots file

-- what a content is of
abbrev pub parts_in : KeyContent → SecretParts
parts_in c = record { lms_type = made_type c.height; ots_type = c.width; identifier = c.identifier; seed = c.seed }

-- ---- what is written

-- what the file of a new key says
abbrev pub new_content : MadeHeight → OtsType → List ℕ → KeyContent
new_content height width master =
    let parts = parts_of_master (made_type height) width master in
    record {
      height = height;
      width = width;
      identifier = parts.identifier;
      seed = parts.seed;
      kept = record { round = 0; next = 0 };
    }

-- the fields before the slots, written over a file
unfoldable pub fields_written : SecretParts → List ℕ → List ℕ
fields_written s file =
    overwritten (overwritten (overwritten (overwritten (overwritten (overwritten file
    0 (to_be_bytes w32 magic))
    4 (1 ∷ []))
    5 (to_be_bytes w32 (tree_number s.lms_type)))
    9 (to_be_bytes w32 (type_number s.ots_type)))
    13 s.identifier)
    29 s.seed

-- the file as it is made, with both gates closed
unfoldable pub made : SecretParts → List ℕ
made s = fields_written s (replicate 128 0)

-- `at` is the offset of a slot
abbrev pub IsSlot : ℕ → Type 0
IsSlot at = (at ≡ 64) ⊎ (at ≡ 96)

-- the offset of the slot that a round is written into: one that is not valid, or else that with the smaller next leaf
abbrev pub slot_for : Slot → Slot → (leaves : ℕ) → ℕ
slot_for a b leaves =
    if is_valid leaves a then (if is_valid leaves b then (if nat_lt a.next b.next then 64 else 96) else 96) else 64

abbrev pub chosen : (leaves : ℕ) → List ℕ → ℕ
chosen leaves file = slot_for (slot_at file 64) (slot_at file 96) leaves

-- a file with the gate of a slot closed, with its numbers written, and with its gate open
abbrev pub closed : List ℕ → ℕ → List ℕ
closed file at = overwritten file at (0 ∷ [])

abbrev pub numbers : (round next : ℕ) → List ℕ
numbers round next = to_be_bytes w64 round ++ to_be_bytes w32 next

abbrev pub written : List ℕ → (at round next : ℕ) → List ℕ
written file at round next = overwritten file (at + 1) (numbers round next)

abbrev pub opened : List ℕ → ℕ → List ℕ
opened file at = overwritten file at (1 ∷ [])

-- all three
unfoldable pub raised : List ℕ → (at round next : ℕ) → List ℕ
raised file at round next = opened (written (closed file at) at round next) at

-- the file's first 128 bytes are these, where the disk tells
abbrev pub Mirrors : Option (List ℕ) → List ℕ → Type 0
Mirrors told image = IfSome told (λ file. take 128 file ≡ image)

-- the file's first 128 bytes are these, and the file is just what a crash leaves, where the disk tells
abbrev pub IsAtRest : Option (List ℕ) → (images : List ℕ → Type 0) → List ℕ → Type 0
IsAtRest told images image = IfSome told (λ file. (take 128 file ≡ image) × Only file images)

-- an image of a file while a gate is closed: at most the gate differs, and nothing where it is closed already
pub record IsClosing (at : ℕ) (file image : List ℕ) : Type 0 where
  pub beside : IsTorn file at 1 image
  pub closed_already : slice_index file at ≡ 0 → image ≡ file
