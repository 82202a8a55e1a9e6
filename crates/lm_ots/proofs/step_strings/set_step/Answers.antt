use Rattle.std.proofs.Common.{arith}
use Rattle.lm_ots.proofs.Blocks.{step_written}
use Rattle.lm_ots.proofs.step_strings.set_step.Goals as goal

pub returns : goal.returns
returns c =
    rw (← c.copy_from_slice.ensures.after) (step_written _ _ _ (omega arith))
