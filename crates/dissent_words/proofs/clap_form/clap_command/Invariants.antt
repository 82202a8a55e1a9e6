use Rattle.std.proofs.Common.{◌≡◌, take, false}
use Rattle.clap.specs.Simple.{app_of}
use Rattle.dissent_words.specs.Forms.{app_with}
use Rattle.dissent_words.proofs.Reading.{seen}
use Rattle.dissent_words.proofs.clap_form.clap_command.Given as goal

abbrev pub invariant-loop-option : goal.invariant-loop-option
invariant-loop-option l = app_of l.command ≡ app_with (seen (take l.option-index l.options)) false
