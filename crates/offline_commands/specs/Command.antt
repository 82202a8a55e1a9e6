-- What words ask for of the commands that wait for nobody.
use Rattle.std.specs.Prelude.{ℕ, nat_le, List, [], ◌∷◌, Bool, true, false, ◌&&◌, if◌then◌else◌, Option, Some, None, option_map, option_and_then}
use Rattle.lm_ots.specs.declared.types.OtsType.{OtsType}
use Rattle.lms_tree.specs.declared.secrets.MadeHeight.{MadeHeight}
use Rattle.round_script.specs.declared.fault.Fault.{Fault}
use Rattle.round_script.specs.declared.script.TheConstants.{MESSAGE_LIMIT}
use Rattle.round_script.specs.Fault.{fault_of_name}
use Rattle.dissent_words.specs.Request.{Text, Request as AnyRequest, for_keygen, for_roster, for_show, for_judge, for_group, for_make, for_member, for_live}
use Rattle.dissent_words.specs.Forms.{requested as any_requested}

-- a command that waits for nobody, with its names as bytes
pub data Request : Type 0 where
  Judge : (roster transcript : Text) → Request
  Show : (roster : Text) → (round : ℕ) → (post : Text) → Request
  Keygen : (key : Text) → (height : MadeHeight) → (width : OtsType) → Request
  Roster : (toml out : Text) → Request
  Group : (script roster transcript : Text) → Request
  Make : (number members size : ℕ) → (fault : Fault) → Request

-- a script is made for 2 to 8 members, with messages that it can have
abbrev pub is_in_range : (members size : ℕ) → Bool
is_in_range members size = nat_le 2 members && nat_le members 8 && nat_le size MESSAGE_LIMIT

-- the fault of a name, where a script is made with these numbers
abbrev pub fault_given : (members size : ℕ) → (name : Text) → Option Fault
fault_given members size name = if is_in_range members size then fault_of_name name else None

-- what is asked for of the commands that wait for nobody: nothing by the words of another
abbrev pub offline_request : AnyRequest → Option Request
offline_request (for_judge roster transcript) = Some (Judge roster transcript)
offline_request (for_show roster round post) = Some (Show roster round post)
offline_request (for_keygen key height width) = Some (Keygen key height width)
offline_request (for_roster toml out) = Some (Roster toml out)
offline_request (for_group script roster transcript) = Some (Group script roster transcript)
offline_request (for_make number members size fault) =
    option_map (λ given. Make number members size given) (fault_given members size fault)
offline_request (for_member roster key round message transcript wait addresses) = None
offline_request (for_live script) = None

-- what words ask for
abbrev pub requested : (words : List Text) → Option Request
requested words = option_and_then offline_request (any_requested words)

-- a command makes a key file
abbrev pub makes_key : Option Request → Bool
makes_key (Some (Keygen key height width)) = true
makes_key request = false

-- the names of the files that a command writes
abbrev pub written_names : Option Request → List Text
written_names (Some (Roster toml out)) = out ∷ []
written_names (Some (Group script roster transcript)) = roster ∷ transcript ∷ []
written_names request = []
