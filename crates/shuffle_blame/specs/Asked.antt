-- What a replay looks at, in a log.
use Rattle.std.specs.Prelude.{◌≡◌, ℕ, List, [], length, Option, Some, unwrap_or}
use Rattle.phase_message.specs.declared.stage.StageKind.{StageKind}
use Rattle.phase_message.specs.declared.stage.StageKind.TheVariants.{Final}
use Rattle.phase_message.specs.Shape.{Shape}
use Rattle.stage_log.specs.Log.{before, contents_of}
use Rattle.stage_log.specs.Table.{Log}
use Rattle.shuffle_blame.specs.declared.fault.Shown.{Shown}
use Rattle.shuffle_blame.specs.Replay.{Inquiry}

-- the contents before a stage, where all of them are there
abbrev pub past_of : Log → ℕ → List (List ℕ)
past_of log stage = contents_of (unwrap_or (before log stage) [])

-- what a replay looks at, in a log
abbrev pub inquiry_of : Log → ℕ → ℕ → List Shown → Inquiry
inquiry_of log stage round shown =
    record { shape = log.shape; past = past_of log stage; stage = stage; round = round; shown = shown }

-- at the end of a shuffle each member shows its part; elsewhere nothing that is shown is looked at
abbrev pub AreShown : Shape → Option StageKind → List Shown → Type 0
AreShown shape (Some (Final shuffle)) shown = length shown ≡ shape.members
AreShown shape _ shown = Unit {0}
