use Rattle.std.proofs.Common.{◌≡◌, map, take}
use Rattle.std.specs.Prelude.{string_bytes}
use Rattle.dissent_words.proofs.Reading.{seen}
use Rattle.dissent_words.proofs.commands.owned.Given as goal

abbrev pub invariant-loop-text : goal.invariant-loop-text
invariant-loop-text l = map (λ s. string_bytes s) l.strings.items ≡ seen (take l.text-index l.texts)
