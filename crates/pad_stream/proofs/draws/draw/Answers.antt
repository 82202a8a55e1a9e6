use Rattle.std.proofs.Common.{◌^◌, ◌<◌, length, ◌∙◌, arith}
use Rattle.rand_core.specs.Steps.{steps_u32}
use Rattle.rand_core.proofs.StepsLemmas.{fill_bytes-value}
use Rattle.rand_chacha.specs.ChaCha.{next_word}
use Rattle.pad_stream.proofs.StreamLemmas.{filled_at}
use Rattle.pad_stream.proofs.draws.draw.Goals as goal

pub returns : goal.returns
returns c =
    let count = length c.args.out.now in
    let short : count < 2 ^ 64 = omega arith in
    let small : c.args.place < 2 ^ 32 = omega arith in
    fill_bytes-value (steps_u32 (next_word 10)) count c.set_word_pos.new.self c.fill_bytes.new.dst _ c.fill_bytes.ensures
    ∙ filled_at c.args.key.now c.args.place count c.from.result c.from_seed-generator.result c.set_word_pos.new.self small short
    c.from_seed-generator.ensures c.from.ensures c.set_word_pos.ensures
