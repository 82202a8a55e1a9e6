use Rattle.std.proofs.Common.{sym, ◌∙◌, arith}
use Rattle.phase_message.proofs.Groups.{large_within}
use Rattle.phase_message.proofs.field.bad_group.Goals as goal

pub overflow_mul-result : goal.overflow_mul-result
overflow_mul-result c =
    let within = large_within c.args.packed.now c.in-Err.large c.requires (sym c.unpack.ensures.value ∙ c.in-Err.is) in
    omega arith

pub returns-in-Err-clause-within : goal.returns-in-Err-clause-within
returns-in-Err-clause-within c =
    let within = large_within c.args.packed.now c.in-Err.large c.requires (sym c.unpack.ensures.value ∙ c.in-Err.is) in
    omega arith
