use Rattle.std.proofs.Common.{arith}
use Rattle.std.proofs.lemmas.List.{get_or-take}
use Rattle.lm_ots.specs.OneTime.{head_word}
use Rattle.lm_ots.proofs.strings.head_word.Goals as goal

pub returns : goal.returns
unfolding head_word
returns c = grind (arith, get_or-take)
