-- What a member enters a round with: what its words, its files and its key file come to before the round begins.
use Rattle.std.specs.Prelude.{◌≡◌, ℕ, suc, ◌+◌, ◌==◌, List, length, take, nat_le, nat_lt, if◌then◌else◌, Option, Some, None, IfSome, option_map, Result, Ok, Err, bytes_eq}
use Rattle.std.specs.List.{position}
use Rattle.wire_core.specs.Answers.{◌>>=◌}
use Rattle.lms_tree.specs.Secret.{own_public}
use Rattle.lms_tree.specs.States.{made_leaves, made_type}
use Rattle.lms_tree.specs.Tree.{height, key_bytes}
use Rattle.group_roster.specs.Binary.{roster_read}
use Rattle.group_roster.specs.Roster.{Roster}
use Rattle.bulk_descriptor.specs.declared.making.TheConstants.{MESSAGE_LIMIT}
use Rattle.key_store.specs.declared.layout.KeyContent.{KeyContent}
use Rattle.key_store.specs.KeyFiles.{key_read, parts_in}
use Rattle.crash_disk.specs.Names.{Names}
use Rattle.round_spec.specs.Say.{Configuration}
use Rattle.offline_commands.specs.declared.commands.TheConstants.{ROSTER_LIMIT}
use Rattle.offline_commands.specs.declared.status.Status.{Status}
use Rattle.offline_commands.specs.declared.status.Status.TheVariants.{BadKeyFile, Exhausted, NotMember, OldRound, Usage}
use Rattle.offline_commands.specs.Outcome.{or_bad_roster, within}
use Rattle.offline_commands.specs.Outside.{DiskTold}

-- the bytes of a word
abbrev pub Text : Type 0
Text = List ℕ

-- what the words of `member` give: names of files, the round, for how many seconds it waits, and the addresses of all
pub record MemberWords : Type 0 where
  pub roster : Text
  pub key : Text
  pub round : ℕ
  pub message : Text
  pub transcript : Text
  pub wait : ℕ
  pub addresses : List Text

-- ---- before the round

-- what a member comes with: its group, its number and message, and what its key file says
pub record Entrant : Type 0 where
  pub roster : Roster
  pub number : ℕ
  pub message : List ℕ
  pub key : KeyContent

-- the number of a member by its key: the key's place in the roster, from 1
abbrev pub number_in : Roster → List ℕ → Option ℕ
number_in roster key = option_map suc (position (bytes_eq key) roster.keys)

-- there is an address for each member
abbrev pub or_usage : Roster → List Text → Result (Unit {0}) Status
or_usage roster addresses = if length addresses == length roster.keys then Ok tt else Err Usage

-- what a key file says, or the status of bytes that are none
abbrev pub or_bad_key_file : Result KeyContent ℕ → Result KeyContent Status
or_bad_key_file (Ok key) = Ok key
or_bad_key_file (Err at) = Err (BadKeyFile at)

-- a member's number, or the status of a roster without its key
abbrev pub or_not_member : Option ℕ → Result ℕ Status
or_not_member (Some number) = Ok number
or_not_member None = Err NotMember

-- ---- the round begins

-- how many leaves a round takes
abbrev pub ROUND_LEAVES : ℕ
ROUND_LEAVES = 12

-- a round begins for a key file where it is above all before, and enough leaves are left
abbrev pub or_not_begun : ℕ → KeyContent → Result (Unit {0}) Status
or_not_begun round key =
    if nat_le round key.kept.round then Err (OldRound key.kept.round)
    else (if nat_lt (made_leaves key.height) (key.kept.next + ROUND_LEAVES)
    then Err (Exhausted key.kept.next (height (made_type key.height))) else Ok tt)

-- what a member enters a round with, which takes its next leaves
abbrev pub configuration_by : ℕ → List ℕ → Entrant → Configuration
configuration_by round fresh e = record {
  roster = e.roster;
  number = e.number;
  round = round;
  fresh = fresh;
  message = e.message;
  key = parts_in e.key;
  first = e.key.kept.next;
}

-- what a key file says once the round has begun
abbrev pub raised_to : ℕ → KeyContent → KeyContent
raised_to round key = record key { kept = record { round = round; next = key.kept.next + ROUND_LEAVES } }

-- ---- by words and files

-- what stood where the command read: the roster's file, the message's, and what the bytes of the key file are read as
pub record Found : Type 0 where
  pub roster_file : Option (List ℕ)
  pub message_file : Option (List ℕ)
  pub key_file : Result KeyContent ℕ

-- what the steps before the key file come to: the roster is read and decoded, the addresses are counted, and the message is
-- read
abbrev pub before_key : MemberWords → Found → Result (Roster × List ℕ) Status
before_key words found = do
  roster_bytes ← within ROSTER_LIMIT found.roster_file
  roster ← or_bad_roster (roster_read roster_bytes)
  _ ← or_usage roster words.addresses
  message ← within MESSAGE_LIMIT found.message_file
  Ok (roster, message)

-- what a member comes with, by its words and by what stood there: behind these steps the key file is read, and the roster
-- has its key
abbrev pub entrant_by : MemberWords → Found → Result Entrant Status
entrant_by words found = do
  first ← before_key words found
  key ← or_bad_key_file found.key_file
  number ← or_not_member (number_in first.0 (key_bytes (own_public (parts_in key))))
  Ok (record { roster = first.0; number = number; message = first.1; key = key })

-- with what it enters the round
abbrev pub entrance_by : MemberWords → List ℕ → Found → Result (Entrant × Configuration) Status
entrance_by words fresh found = do
  entrant ← entrant_by words found
  _ ← or_not_begun words.round entrant.key
  Ok (entrant, configuration_by words.round fresh entrant)

-- the bytes of the key file of this name, where they are known: those under the name, where the disk tells its names; else
-- the disk's file, where it tells that
abbrev pub file_told : Option Names → Option (List ℕ) → Text → Option (List ℕ)
file_told None file name = file
file_told (Some names) file name = names.held name

abbrev pub key_file_told : DiskTold → Text → Option (List ℕ)
key_file_told disk name = file_told disk.names disk.file name

-- the bytes of the key file are read so, where they are known
abbrev pub IsKeyFile : DiskTold → Text → Result KeyContent ℕ → Type 0
IsKeyFile disk name read = IfSome (key_file_told disk name) (λ bytes. key_read (take 128 bytes) ≡ read)
