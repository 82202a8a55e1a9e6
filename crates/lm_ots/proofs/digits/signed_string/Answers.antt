use Rattle.std.proofs.Common.{arith}
use Rattle.lm_ots.proofs.Blocks.{tail_written}
use Rattle.lm_ots.proofs.digits.signed_string.Goals as goal

pub returns : goal.returns
returns c =
    rw (← c.checksum.ensures, ← c.copy_from_slice.ensures.after, ← c.copy_from_slice-2.ensures.after)
    (tail_written _ _ (omega arith))
