use Rattle.clap.specs.Matches.{found_of}
use Rattle.clap.specs.Walk.{rows_of}
use Rattle.dissent_words.proofs.Reading.{IsReading}
use Rattle.dissent_words.proofs.values.option_values.Given as goal

abbrev pub invariant-loop-option : goal.invariant-loop-option
invariant-loop-option l = IsReading (rows_of (found_of l.matches)) l.options l.option-index l.values.items
