-- Plain words: each option of a command stands once, in any order, and then the addresses.
use Rattle.std.specs.Prelude.{◌≡◌, List, [], ◌∷◌, ◌++◌, Bool, true, false, not, ◌==◌, if◌then◌else◌, option_map, unwrap_or, find, map, bytes_eq, codes, IsPermutation}
use Rattle.std.specs.List.{All}
use Rattle.clap.specs.Walk.{is_empty}
use Rattle.dissent_words.specs.Request.{Text}
use Rattle.dissent_words.specs.Forms.{Form, Given}

-- an option that stands in the words, with its value
pub record Use : Type 0 where
  pub option : Text
  pub value : Text
  -- as one word, `--option=value`, and not as two, `--option value`
  pub is_joined : Bool

-- the words of an option that stands there
abbrev pub words_of : Use → List Text
words_of given =
    if given.is_joined then (codes "--" ++ (given.option ++ (codes "=" ++ given.value))) ∷ []
    else (codes "--" ++ given.option) ∷ given.value ∷ []

-- the words of options, and then the addresses
abbrev pub spelled : List Use → (addresses : List Text) → List Text
spelled [] addresses = addresses
spelled (given ∷ uses) addresses = words_of given ++ spelled uses addresses

-- the value that an option has
abbrev pub value_in : List Use → (option : Text) → Text
value_in uses option = unwrap_or (option_map (λ given. given.value) (find (λ given. bytes_eq given.option option) uses)) []

-- a word is not empty and does not begin with `-`
abbrev pub is_value : Text → Bool
is_value [] = false
is_value (first ∷ rest) = not (first == 45)

-- Options and addresses are plain under a form: the options are those of the form, each once, with addresses where the
-- form has them, and only there.
pub record IsPlain (form : Form) (uses : List Use) (addresses : List Text) : Type 0 where
  pub once : IsPermutation (map (λ given. given.option) uses) form.options
  pub option_values : All (λ given. is_value given.value ≡ true) uses
  pub address_values : All (λ address. is_value address ≡ true) addresses
  pub number : is_empty addresses ≡ not form.takes_addresses

-- what plain words give
abbrev pub given_plainly : Form → List Use → (addresses : List Text) → Given
given_plainly form uses addresses = record { values = map (value_in uses) form.options; addresses = addresses }
