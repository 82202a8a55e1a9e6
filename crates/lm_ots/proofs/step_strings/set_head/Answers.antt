use Rattle.std.proofs.Common.{arith}
use Rattle.lm_ots.proofs.Blocks.{head_written}
use Rattle.lm_ots.proofs.step_strings.set_head.Goals as goal

pub returns : goal.returns
returns c =
    rw (← c.copy_from_slice.ensures.after, ← c.copy_from_slice-2.ensures.after, ← c.copy_from_slice-3.ensures.after)
    (head_written c.args.block.now c.copy_from_slice.new.self c.copy_from_slice-2.new.self c.copy_from_slice-3.new.self (omega arith)
    (omega arith) (omega arith) (omega arith))
