-- The first offence of bytes that spell no roster, and the roster that others spell.
use Rattle.std.specs.Prelude.{◌≡◌, ◌↔◌, ℕ, ◌+◌, ◌*◌, List, [], ◌∷◌, length, take, drop, map, bytes_eq, Bool, not, ◌&&◌, nat_lt, nat_le, slice_index, Option, Some, None, Result, Ok, Err}
use Rattle.std.specs.Option.{option_map}
use Rattle.std.specs.List.{range_with_len, list_any}
use Rattle.wire_core.specs.Answers.{first_some, first_below, fault_unless, value_unless, fault_as}
use Rattle.wire_core.specs.Places.{has_byte, first_unlike}
use Rattle.lms_tree.specs.declared.keys.LmsPublic.{LmsPublic}
use Rattle.lms_tree.specs.declared.keys.KeyRefusal.{KeyRefusal}
use Rattle.lms_tree.specs.declared.keys.KeyRefusal.TheVariants.{LmsKind as NoLmsKind, OtsKind as NoOtsKind}
use Rattle.lms_tree.specs.Tree.{key_read}
use Rattle.group_roster.specs.declared.rule.Offence.{Offence}
use Rattle.group_roster.specs.declared.rule.Rule.TheVariants.{Magic, Version, Size, Short, Trailing, LmsKind, OtsKind, Duplicate}
use Rattle.group_roster.specs.Roster.{Roster, IsRosterFile, roster_magic, roster_spelling}
use Rattle.group_roster.specs.Rules.{offence, numbered}

-- how many keys the bytes announce
abbrev pub size_of : List ℕ → ℕ
size_of bytes = slice_index bytes 5

-- the number of keys is there, and is one of a group
abbrev pub has_size : List ℕ → Bool
has_size bytes = nat_lt 5 (length bytes) && (nat_le 2 (size_of bytes) && nat_le (size_of bytes) 8)

-- where key k begins, from key 0 on, and its bytes
abbrev pub key_place : ℕ → ℕ
key_place k = 6 + 56 * k

abbrev pub key_at : List ℕ → ℕ → List ℕ
key_at bytes k = take 56 (drop (key_place k) bytes)

-- the offence of a key's two types
abbrev pub type_offence : ℕ → Result LmsPublic KeyRefusal → Option Offence
type_offence place (Ok key) = None
type_offence place (Err (NoLmsKind found)) = Some (offence place LmsKind)
type_offence place (Err (NoOtsKind found)) = Some (offence (place + 4) OtsKind)

-- whether key k equals an earlier one
abbrev pub repeats : List ℕ → ℕ → Bool
repeats bytes k = list_any (λ j. bytes_eq (key_at bytes j) (key_at bytes k)) (range_with_len 0 k)

-- the first offence of key k
abbrev pub key_offence : List ℕ → ℕ → Option Offence
key_offence bytes k = first_some (
    fault_unless (nat_le (key_place (k + 1)) (length bytes)) (offence (key_place k) Short)
    ∷ type_offence (key_place k) (key_read (key_at bytes k))
    ∷ fault_unless (not (repeats bytes k)) (offence (key_place k) Duplicate)
    ∷ [])

-- the first offence before the keys
abbrev pub head_offence : List ℕ → Option Offence
head_offence bytes = first_some (
    option_map (λ place. offence place Magic) (first_unlike roster_magic bytes)
    ∷ fault_unless (has_byte bytes 4 1) (offence 4 Version)
    ∷ fault_unless (has_size bytes) (offence 5 Size)
    ∷ [])

-- the first offence of the keys
abbrev pub keys_offence : List ℕ → ℕ → Option Offence
keys_offence bytes n = first_below n (key_offence bytes)

-- the first offence of bytes that spell no roster
unfoldable pub roster_offence : List ℕ → Option Offence
roster_offence bytes = first_some (
    head_offence bytes
    ∷ keys_offence bytes (size_of bytes)
    ∷ fault_unless (nat_le (length bytes) (key_place (size_of bytes))) (offence (key_place (size_of bytes)) Trailing)
    ∷ [])

-- the keys that the bytes of n keys spell
abbrev pub keys_at : List ℕ → ℕ → List (List ℕ)
keys_at bytes n = map (key_at bytes) (range_with_len 0 n)

-- the roster that bytes without an offence spell
abbrev pub spelled_roster : List ℕ → Roster
spelled_roster bytes = record {
  version = slice_index bytes 4;
  keys = keys_at bytes (size_of bytes);
}

-- what a decoder answers to bytes: their roster, or their first offence
abbrev pub roster_read : List ℕ → Result Roster (ℕ × ℕ)
roster_read bytes = fault_as numbered (value_unless (roster_offence bytes) (spelled_roster bytes))

-- bytes that spell a roster file have no offence and are read as it, and others have an offence
abbrev pub SpelledExactly : Type 0
SpelledExactly = (bytes : List ℕ) (r : Roster)
    → (roster_read bytes ≡ Ok r) ↔ (IsRosterFile r × (bytes ≡ roster_spelling r))
