-- The table of commands, and what words ask for by it: the words behind a command's name are read as clap reads them.
use Rattle.std.specs.Prelude.{List, [], ◌∷◌, ◌++◌, Bool, true, false, if◌then◌else◌, Option, Some, None, option_map, option_and_then, unwrap_or, find, map, bytes_eq, codes}
use Rattle.std.specs.Option.{is_some}
use Rattle.clap.specs.Walk.{Row, Rule, all_of, first_of, is_empty}
use Rattle.clap.specs.Simple.{App, matches_of, new_rule, new_shape}
use Rattle.clap.specs.Faults.{fault_of}
use Rattle.clap.specs.declared.builder.action.ArgAction.TheVariants.{Append, Set}
use Rattle.dissent_words.specs.Request.{Text, Request, for_keygen, for_roster, for_show, for_judge, for_group, for_make, for_member, for_live}
use Rattle.dissent_words.specs.Numbers.{number_within, height_of, width_of}

-- ---- the commands as clap sees them

-- a required option `--name`, of one value
abbrev pub option_rule : Text → Rule
option_rule name = record (new_rule name) { long = Some name; action = Some Set; required = true }

-- one or more words that are no options
abbrev pub address_rule : Rule
address_rule = record (new_rule (codes "address")) { action = Some Append; required = true }

-- a command with these options, and with addresses or none; it has no flag for help
abbrev pub app_with : (options : List Text) → (takes_addresses : Bool) → App
app_with options takes_addresses = record {
  top = record (new_shape (codes "dissent")) {
    rules = map option_rule options ++ (if takes_addresses then address_rule ∷ [] else []);
    no_binary_name = true;
    disable_help_flag = true;
    disable_version_flag = true;
  };
  subs = [];
}

-- ---- what the words give

-- what words give a command: the value of each option, in the order of its form, and the addresses
pub record Given : Type 0 where
  pub values : List Text
  pub addresses : List Text

-- the value of each of the options, if each has one
abbrev pub values_in : List Row → (options : List Text) → Option (List Text)
values_in rows [] = Some []
values_in rows (option ∷ options) =
    option_and_then (λ value. option_map (λ values. value ∷ values) (values_in rows options)) (first_of option rows)

abbrev pub given_in : (options : List Text) → List Row → Option Given
given_in options rows = option_map (λ values. record {
  values = values;
  addresses = unwrap_or (all_of (codes "address") rows) [];
}) (values_in rows options)

-- what clap reads in the words, if it refuses none of them
unfoldable pub given_by : (options : List Text) → (takes_addresses : Bool) → (words : List Text) → Option Given
given_by options takes_addresses words =
    if is_empty (fault_of (app_with options takes_addresses) words)
    then given_in options (matches_of (app_with options takes_addresses) words) else None

-- ---- what the values of each command ask for

-- what so many values ask for
abbrev pub of_one : (Text → Option Request) → List Text → Option Request
of_one request (a ∷ []) = request a
of_one request values = None

abbrev pub of_two : (Text → Text → Option Request) → List Text → Option Request
of_two request (a ∷ b ∷ []) = request a b
of_two request values = None

abbrev pub of_three : (Text → Text → Text → Option Request) → List Text → Option Request
of_three request (a ∷ b ∷ c ∷ []) = request a b c
of_three request values = None

abbrev pub of_four : (Text → Text → Text → Text → Option Request) → List Text → Option Request
of_four request (a ∷ b ∷ c ∷ d ∷ []) = request a b c d
of_four request values = None

abbrev pub of_six : (Text → Text → Text → Text → Text → Text → Option Request) → List Text → Option Request
of_six request (a ∷ b ∷ c ∷ d ∷ e ∷ f ∷ []) = request a b c d e f
of_six request values = None

abbrev pub keygen_request : Given → Option Request
keygen_request given = of_three (λ key height width.
    option_and_then (λ h. option_map (λ w. for_keygen key h w) (width_of width)) (height_of height)) given.values

abbrev pub roster_request : Given → Option Request
roster_request given = of_two (λ toml out. Some (for_roster toml out)) given.values

abbrev pub show_request : Given → Option Request
show_request given = of_three (λ roster round post.
    option_map (λ r. for_show roster r post) (number_within 1 18446744073709551615 round)) given.values

abbrev pub judge_request : Given → Option Request
judge_request given = of_two (λ roster transcript. Some (for_judge roster transcript)) given.values

abbrev pub group_request : Given → Option Request
group_request given = of_three (λ script roster transcript. Some (for_group script roster transcript)) given.values

abbrev pub make_request : Given → Option Request
make_request given = of_four (λ number members bytes fault.
    option_and_then (λ k. option_and_then (λ n. option_map (λ b. for_make k n b fault)
    (number_within 0 65536 bytes)) (number_within 2 8 members)) (number_within 0 18446744073709551615 number)) given.values

abbrev pub member_request : Given → Option Request
member_request given = of_six (λ roster key round message transcript wait.
    option_and_then (λ r. option_map (λ s. for_member roster key r message transcript s given.addresses)
    (number_within 1 3600 wait)) (number_within 1 18446744073709551615 round)) given.values

abbrev pub live_request : Given → Option Request
live_request given = of_one (λ script. Some (for_live script)) given.values

-- ---- the table

-- the words of a command: its name, its options, whether addresses follow them, and what is asked for by what they give
pub record Form : Type 0 where
  pub name : Text
  pub options : List Text
  pub takes_addresses : Bool
  pub request : Given → Option Request

abbrev pub keygen_form : Form
keygen_form = record { name = codes "keygen"; options = codes "key" ∷ codes "height" ∷ codes "width" ∷ []; takes_addresses = false; request = keygen_request }

abbrev pub roster_form : Form
roster_form = record { name = codes "roster"; options = codes "toml" ∷ codes "out" ∷ []; takes_addresses = false; request = roster_request }

abbrev pub show_form : Form
show_form = record { name = codes "show"; options = codes "roster" ∷ codes "round" ∷ codes "post" ∷ []; takes_addresses = false; request = show_request }

abbrev pub judge_form : Form
judge_form = record { name = codes "judge"; options = codes "roster" ∷ codes "transcript" ∷ []; takes_addresses = false; request = judge_request }

abbrev pub group_form : Form
group_form = record { name = codes "group"; options = codes "script" ∷ codes "roster" ∷ codes "transcript" ∷ []; takes_addresses = false; request = group_request }

abbrev pub make_form : Form
make_form = record { name = codes "make"; options = codes "number" ∷ codes "members" ∷ codes "bytes" ∷ codes "fault" ∷ []; takes_addresses = false; request = make_request }

abbrev pub member_form : Form
member_form = record {
  name = codes "member";
  options = codes "roster" ∷ codes "key" ∷ codes "round" ∷ codes "message" ∷ codes "transcript" ∷ codes "wait" ∷ [];
  takes_addresses = true;
  request = member_request;
}

abbrev pub live_form : Form
live_form = record { name = codes "live"; options = codes "script" ∷ []; takes_addresses = false; request = live_request }

-- the forms of all commands
abbrev pub forms : List Form
forms = keygen_form ∷ roster_form ∷ show_form ∷ judge_form ∷ group_form ∷ make_form ∷ member_form ∷ live_form ∷ []

-- what the words behind a command's name ask for
abbrev pub request_by : Form → (words : List Text) → Option Request
request_by form words = option_and_then form.request (given_by form.options form.takes_addresses words)

-- the form of the command that a word names
abbrev pub form_named : Text → Option Form
form_named word = find (λ form. bytes_eq word form.name) forms

-- what the words ask for: the first names a command, and the others are read by its form
abbrev pub requested : (words : List Text) → Option Request
requested [] = None
requested (word ∷ words) = option_and_then (λ form. request_by form words) (form_named word)

-- the first word names a command
abbrev pub names_command : (words : List Text) → Bool
names_command [] = false
names_command (word ∷ words) = is_some (form_named word)
