-- Rosters in TOML: the keys that a document tells, or the first rule that it breaks.
--
--   rule 9   `toml` refuses the bytes, or they are no text         at 0
--   rule 10  a key beside `version` and `member` is at the top     at 0
--   rule 11  `version` is missing, or not the integer 1            at 0
--   rule 12  `member` is missing, no array, or not 2 to 8 entries  at 0
--   rule 13  an entry is no table with the one key `key`,
--            a string of 112 hexadecimal digits                    at its number, from 1
--
-- and then the rules 6, 7 and 8 of the roster's bytes, at their places there.
use Rattle.std.specs.Prelude.{ℕ, ℤ, ◌+◌, List, [], ◌∷◌, ◌++◌, length, Bool, false, not, ◌&&◌, ◌||◌, nat_le, bytes_eq, codes, if◌then◌else◌, Option, Some, None, Result, Ok, Err, pos, option_and_then}
use Rattle.std.specs.Ordering.{int_eq}
use Rattle.std.specs.List.{list_any}
use Rattle.std.specs.Result.{result_ok}
use Rattle.std.specs.Str.{is_utf8}
use Rattle.hex.specs.Hex.{decode_sized}
use Rattle.toml.specs.Data.{Data, Items, no_items, item, Members, no_members, member, get_member, as_array, as_integer, as_str, as_table}
use Rattle.toml.specs.Parse.{parse_document}
use Rattle.wire_core.specs.Answers.{◌>>=◌, fault_unless, value_unless}
use Rattle.group_roster.specs.declared.rule.Rule.TheVariants.{NotToml, FurtherKey, TomlVersion, TomlMembers, Entry}
use Rattle.group_roster.specs.Roster.{Roster, roster_spelling}
use Rattle.group_roster.specs.Rules.{broken}
use Rattle.group_roster.specs.Binary.{roster_read}

-- a value, or a fault where there is none
abbrev pub value_or : {A F : Type 0} → F → Option A → Result A F
value_or fault (Some value) = Ok value
value_or fault None = Err fault

-- what a document has at its top: nothing where `toml` refuses the bytes, or they are no text
unfoldable pub document_in : List ℕ → Option Members
document_in bytes = if is_utf8 bytes then parse_document bytes else None

-- whether a table has a key beside these names
abbrev pub has_key_beside : List (List ℕ) → Members → Bool
has_key_beside names no_members = false
has_key_beside names (member key value others) =
    not (list_any (λ name. bytes_eq key name) names) || has_key_beside names others

-- whether a number is 1
abbrev pub is_one : Option ℤ → Bool
is_one (Some n) = int_eq n (pos 1)
is_one None = false

-- whether a document's `version` is the integer 1
abbrev pub has_version_1 : Members → Bool
has_version_1 top = is_one (option_and_then as_integer (get_member (codes "version") top))

-- the items of an array, as a list
abbrev pub list_of : Items → List Data
list_of no_items = []
list_of (item first others) = first ∷ list_of others

-- the entries, where there are as many as a group may have members
abbrev pub if_a_group : Items → Option (List Data)
if_a_group items =
    if nat_le 2 (length (list_of items)) && nat_le (length (list_of items)) 8 then Some (list_of items) else None

-- the entries of a document's `member`
abbrev pub entries_in : Members → Option (List Data)
entries_in top = option_and_then if_a_group (option_and_then as_array (get_member (codes "member") top))

-- the key that a table tells: it has the one key `key`, a string of 112 hexadecimal digits
abbrev pub key_in : Members → Option (List ℕ)
key_in entry =
    if has_key_beside (codes "key" ∷ []) entry then None
    else option_and_then (λ digits. result_ok (decode_sized digits 56)) (option_and_then as_str (get_member (codes "key") entry))

-- the key that an entry tells
unfoldable pub key_of_entry : Data → Option (List ℕ)
key_of_entry entry = option_and_then key_in (as_table entry)

-- the keys of the entries, of which the first has this number, or the number of the first entry that tells none
unfoldable pub keys_from : ℕ → List Data → Result (List (List ℕ)) (ℕ × ℕ)
keys_from number [] = Ok []
keys_from number (entry ∷ entries) = do
  key ← value_or (broken number Entry) (key_of_entry entry)
  keys ← keys_from (number + 1) entries
  Ok (key ∷ keys)

-- the keys that a document tells, or the first of the rules 9 to 13 that it breaks
unfoldable pub toml_keys : List ℕ → Result (List (List ℕ)) (ℕ × ℕ)
toml_keys bytes = do
  top ← value_or (broken 0 NotToml) (document_in bytes)
  known ← value_unless (fault_unless (not (has_key_beside (codes "version" ∷ codes "member" ∷ []) top)) (broken 0 FurtherKey)) top
  of_version ← value_unless (fault_unless (has_version_1 top) (broken 0 TomlVersion)) top
  entries ← value_or (broken 0 TomlMembers) (entries_in top)
  keys_from 1 entries

-- the roster that a document stands for: that of its keys' bytes
unfoldable pub toml_read : List ℕ → Result Roster (ℕ × ℕ)
toml_read bytes = toml_keys bytes >>= λ keys. roster_read (roster_spelling (record { version = 1; keys = keys }))
