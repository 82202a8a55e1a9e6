-- What words ask for.
use Rattle.std.specs.Prelude.{◌≡◌, ℕ, List, map, Option, Some, None, Result, MatchResult, String, string_bytes}
use Rattle.std.specs.declared.alloc.Global.{Global}
use Rattle.lm_ots.specs.declared.types.OtsType.{OtsType}
use Rattle.lms_tree.specs.declared.secrets.MadeHeight.{MadeHeight}
use Rattle.dissent_words.specs.declared.command.Command.{Command}
use Rattle.dissent_words.specs.declared.command.Command.TheVariants.{Keygen, Roster, Show, Judge, Group, Make, Member, Live}
use Rattle.dissent_words.specs.declared.refusal.WordsRefusal.{WordsRefusal}
use Rattle.dissent_words.specs.declared.refusal.WordsRefusal.TheVariants.{Usage}

-- the bytes of a word
abbrev pub Text : Type 0
Text = List ℕ

-- the bytes of each word
abbrev pub texts : List (String Global) → List Text
texts words = map (λ word. string_bytes word) words

-- a command, with its names as bytes
pub data Request : Type 0 where
  for_keygen : (key : Text) → (height : MadeHeight) → (width : OtsType) → Request
  for_roster : (toml out : Text) → Request
  for_show : (roster : Text) → (round : ℕ) → (post : Text) → Request
  for_judge : (roster transcript : Text) → Request
  for_group : (script roster transcript : Text) → Request
  for_make : (number members bytes : ℕ) → (fault : Text) → Request
  for_member : (roster key : Text) → (round : ℕ) → (message transcript : Text) → (wait : ℕ) → (addresses : List Text) → Request
  for_live : (script : Text) → Request

-- the request that a command is
abbrev pub request_of : Command → Request
request_of (Keygen key height width) = for_keygen (string_bytes key) height width
request_of (Roster toml out) = for_roster (string_bytes toml) (string_bytes out)
request_of (Show roster round post) = for_show (string_bytes roster) round (string_bytes post)
request_of (Judge roster transcript) = for_judge (string_bytes roster) (string_bytes transcript)
request_of (Group script roster transcript) = for_group (string_bytes script) (string_bytes roster) (string_bytes transcript)
request_of (Make number members bytes fault) = for_make number members bytes (string_bytes fault)
request_of (Member roster key round message transcript wait addresses) =
    for_member (string_bytes roster) (string_bytes key) round (string_bytes message) (string_bytes transcript) wait (texts addresses.items)
request_of (Live script) = for_live (string_bytes script)

-- What a call came to is the expected value, seen by view: Usage where there is none. Out of memory may come of any words.
abbrev pub Reads : {X Y : Type 0} → (X → Y) → Result X WordsRefusal → Option Y → Type 0
Reads view result expected = MatchResult result (λ x. expected ≡ Some (view x)) (λ refusal. refusal ≡ Usage → expected ≡ None)
