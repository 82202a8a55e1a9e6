-- The head of a content: 75 bytes, of which six fields are read from left to right.
use Rattle.std.specs.Prelude.{ℕ, List, Result, Ok}
use Rattle.std.specs.Int.{w8, w64}
use Rattle.wire_core.specs.declared.cursor.Short.{Short}
use Rattle.wire_core.specs.Reading.{Reading, reading_of, ◌>>=◌, bytes_at, number_at}
use Rattle.phase_message.specs.declared.header.Header.{Header}

-- the version at 0, the group's id at 1, the round at 33, the stage at 41, the sender at 42 and the
-- view at 43
unfoldable pub header_at : Reading → Result (Header × Reading) Short
header_at before = do
  version ← number_at w8 before
  group ← bytes_at 32 version.1
  round ← number_at w64 group.1
  stage ← number_at w8 round.1
  sender ← number_at w8 stage.1
  view ← bytes_at 32 sender.1
  Ok (record { version = version.0; group = group.0; round = round.0; stage = stage.0; sender = sender.0; view = view.0 }, view.1)

-- the header of a content, whatever follows it, or the first field that is cut
abbrev pub header_of : List ℕ → Result Header Short
header_of content = header_at (reading_of content) >>= λ x. Ok x.0
