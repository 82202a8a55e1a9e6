-- What a script says at its beginning, as the code holds it.
use Rattle.phase_message.specs.Stages.{shape_of}
use Rattle.round_script.specs.declared.reading.Opening.{Opening as GivenOpening}
use Rattle.round_script.specs.Read.{Opening}

-- its numbers, its seed and its messages
abbrev pub opening_of : GivenOpening → Opening
opening_of given = record {
  shape = shape_of given.shape;
  round = given.round;
  seed = given.seed;
  messages = given.messages;
}
