-- Rosters: the members' keys, what a group can have, and how a file spells it.
use Rattle.std.specs.Prelude.{◌≡◌, ◌≢◌, ℕ, zero, suc, ◌≤◌, option_and_then, List, [], ◌∷◌, ◌++◌, length, All, AllPairs, codes, Option, Some, None, IsOk}
use Rattle.std.specs.List.{concat, slice_get}
use Rattle.std.specs.Result.{result_ok}
use Rattle.phase_message.specs.Shape.{Shape}
use Rattle.wire_core.specs.declared.tag.Tag.TheVariants.{Roster as RosterTag}
use Rattle.wire_core.specs.Hash.{hash_of}
use Rattle.lms_tree.specs.declared.keys.LmsPublic.{LmsPublic}
use Rattle.lms_tree.specs.Tree.{key_read}

-- the version of a round's rules, and the members' keys by number
pub record Roster : Type 0 where
  pub version : ℕ
  pub keys : List (List ℕ)

-- the text "DSRO"
abbrev pub roster_magic : List ℕ
roster_magic = codes "DSRO"

-- the bytes of a roster: the text, the version, the number of keys, and the keys
abbrev pub roster_spelling : Roster → List ℕ
roster_spelling r = roster_magic ++ (r.version ∷ length r.keys ∷ concat r.keys)

-- what the stages of the group's rounds depend on
abbrev pub shape_of_roster : Roster → Shape
shape_of_roster r = record { version = r.version; members = length r.keys }

-- a group's id: the hash of its roster's bytes
abbrev pub roster_id : Roster → List ℕ
roster_id r = hash_of RosterTag (roster_spelling r ∷ [])

-- 56 bytes that an LMS public key is read from
pub record IsKey (key : List ℕ) : Type 0 where
  pub size : length key ≡ 56
  pub reads : IsOk (key_read key)

-- what a group can have: version 1, and 2 to 8 keys, of which some may be equal
pub record IsRosterForm (r : Roster) : Type 0 where
  pub version : r.version ≡ 1
  pub least : 2 ≤ length r.keys
  pub most : length r.keys ≤ 8
  pub keys : All IsKey r.keys

-- what a roster file spells: such a roster, with distinct keys
pub record IsRosterFile (r : Roster) : Type 0 where
  pub form : IsRosterForm r
  pub distinct : AllPairs ◌≢◌ r.keys

-- the key of a member's number, from 1 on
abbrev pub key_of : Roster → ℕ → Option LmsPublic
key_of r zero = None
key_of r (suc k) = option_and_then (λ key. result_ok (key_read key)) (slice_get r.keys k)
