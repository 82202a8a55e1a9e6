-- Parts of rows, by the values that a call is given.
use Rattle.std.specs.Prelude.{ℕ, List, [], Option, Some, None}
use Rattle.phase_message.specs.declared.content.Body.{Body}
use Rattle.phase_message.specs.declared.content.Body.TheVariants.{Keys, Pads}
use Rattle.phase_message.specs.declared.stage.StageKind.{StageKind}
use Rattle.phase_message.specs.declared.stage.StageKind.TheVariants.{Shuffle}
use Rattle.bulk_descriptor.specs.Descriptor.{pad_row}

-- the pad that a member of a group of n sends for an entry of the opened list; the empty one where the entry did not open
abbrev pub pad_sent_for : ℕ → List ℕ → List ℕ → ℕ → List ℕ → Option (List ℕ) → List ℕ
pad_sent_for n own kept_pad member seed None = []
pad_sent_for n own kept_pad member seed (Some entry) = pad_row n own kept_pad member seed entry

-- a stage of this kind is a turn of a shuffle
abbrev pub IsTurn : Option StageKind → Type 0
IsTurn (Some (Shuffle shuffle k)) = Unit {0}
IsTurn _ = ⊥

-- a body says keys
abbrev pub IsKeys : Body → Type 0
IsKeys (Keys keys) = Unit {0}
IsKeys _ = ⊥

-- a body says pads
abbrev pub IsPads : Body → Type 0
IsPads (Pads pads) = Unit {0}
IsPads _ = ⊥
