-- What a body holds: which kinds a stage has, and the counts and the lengths of a kind's fields there.
use Rattle.std.specs.Prelude.{ℕ, ◌+◌, ◌-◌, ◌*◌, ◌==◌, Option, Some, None, if◌then◌else◌}
use Rattle.phase_message.specs.declared.stage.StageKind.{StageKind}
use Rattle.phase_message.specs.declared.stage.StageKind.TheVariants.{Keys as AtKeys, Submit as AtSubmit, Shuffle as AtShuffle, Go as AtGo, Final as AtFinal, Pad as AtPad, Check as AtCheck, Confirm as AtConfirm}
use Rattle.phase_message.specs.declared.form.BodyForm.{BodyForm}
use Rattle.phase_message.specs.declared.form.BodyForm.TheVariants.{Keys, Submit, Shuffled, Abort, Go, Reveal, Dispute, Pads, Check, Confirm, Differ}
use Rattle.phase_message.specs.Shape.{Shape}
use Rattle.phase_message.specs.Stages.{kind_of_stage}
use Rattle.phase_message.specs.Slots.{slots_before}

-- How many bytes an entry of a shuffle has after k of its n turns: a descriptor (shuffle A, number 1) or an
-- accusation of 34 bytes (shuffle B), in a layer of 2,272 bytes for each of the 2n keys that is not yet off.
abbrev pub level : ℕ → ℕ → ℕ → ℕ
level n shuffle k = (if shuffle == 1 then 36 + 2272 * n else 34) + 2272 * (2 * n - k)

-- How many bytes each body of a stage has: 9,120 of the five keys, an entry with all its layers, a flag. 0 where
-- bodies of the stage differ in length.
abbrev pub length_rule : Shape → StageKind → ℕ
length_rule shape AtKeys = 9120
length_rule shape (AtSubmit shuffle) = level shape.members shuffle 0
length_rule shape (AtGo shuffle) = 1
length_rule shape AtCheck = 1
length_rule shape (AtShuffle shuffle k) = 0
length_rule shape (AtFinal shuffle) = 0
length_rule shape AtPad = 0
length_rule shape AtConfirm = 0

-- the form under one number
abbrev pub only : ℕ → BodyForm → ℕ → Option BodyForm
only number form kind = if kind == number then Some form else None

-- the forms under two numbers
abbrev pub either : ℕ → BodyForm → ℕ → BodyForm → ℕ → Option BodyForm
either number form other_number other kind = if kind == number then Some form else only other_number other kind

-- the kinds of a stage by their numbers, where so many slots are before it
abbrev pub form_in : Shape → ℕ → StageKind → ℕ → Option BodyForm
form_in shape before AtKeys kind = only 1 Keys kind
form_in shape before (AtSubmit shuffle) kind = only 2 (Submit (level shape.members shuffle 0)) kind
form_in shape before (AtShuffle shuffle k) kind = either 3 (Shuffled shape.members (level shape.members shuffle k)) 4 Abort kind
form_in shape before (AtGo shuffle) kind = only 5 Go kind
form_in shape before (AtFinal shuffle) kind = either 6 (Reveal shape.members) 7 (Dispute before) kind
form_in shape before AtPad kind = only 8 (Pads shape.members) kind
form_in shape before AtCheck kind = only 9 Check kind
form_in shape before AtConfirm kind = either 10 (Confirm shape.members) 11 (Differ before) kind

abbrev pub form_of : Shape → ℕ → Option StageKind → ℕ → Option BodyForm
form_of shape before None kind = None
form_of shape before (Some stage) kind = form_in shape before stage kind

-- what a body holds at a stage under a kind's number, if the stage has that kind
unfoldable pub body_form : Shape → ℕ → ℕ → Option BodyForm
body_form shape stage kind = form_of shape (slots_before shape stage) (kind_of_stage shape stage) kind
