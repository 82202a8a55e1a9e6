-- Laws of the words.
use Rattle.std.specs.Prelude.{◌≡◌, List, ◌∷◌}
use Rattle.std.specs.List.{Contains}
use Rattle.dissent_words.specs.Request.{Text}
use Rattle.dissent_words.specs.Forms.{Form, forms, requested}
use Rattle.dissent_words.specs.Plain.{Use, IsPlain, spelled, given_plainly}

-- plain words ask for what their values ask for
abbrev pub PlainWordsAreRead : Type 0
PlainWordsAreRead = (form : Form) (uses : List Use) (addresses : List Text) → Contains forms form → IsPlain form uses addresses
    → requested (form.name ∷ spelled uses addresses) ≡ form.request (given_plainly form uses addresses)
