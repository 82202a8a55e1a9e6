use Rattle.std.proofs.Common.{◌≡◌}
use Rattle.lm_ots.specs.OneTime.{complement_sum}
use Rattle.lm_ots.proofs.digits.checksum.Given as goal

-- the sum over the digits so far
abbrev pub invariant-loop-i : goal.invariant-loop-i
invariant-loop-i l = l.sum ≡ complement_sum l.digest l.w l.i
