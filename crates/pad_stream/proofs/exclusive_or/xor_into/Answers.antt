use Rattle.std.proofs.Common.{arith}
use Rattle.pad_stream.proofs.ExclusiveOrLemmas.{exclusive_or_by_place}
use Rattle.pad_stream.proofs.exclusive_or.xor_into.Goals as goal

pub returns : goal.returns
returns c =
    exclusive_or_by_place c.args.into.now c.args.from.now c.loop-i.into c.requires c.loop-i.auto.into
    (λ i below. c.loop-i.invariant.done i (omega arith))
