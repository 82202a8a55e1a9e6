use Rattle.std.proofs.Common.{◌∙◌}
use Rattle.dissent_words.proofs.Digits.{number_read}
use Rattle.dissent_words.proofs.numbers.decimal.Goals as goal

pub returns-in-len1-up : goal.returns-in-len1-up
returns-in-len1-up c =
    c.ok.ensures.value ∙ number_read c.args.word.now c.parse.result (rw c.as_bytes.ensures.value at c.if-first-gt48.true) c.parse.ensures.value.0
