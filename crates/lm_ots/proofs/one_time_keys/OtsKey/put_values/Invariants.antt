use Rattle.std.proofs.Common.{◌≡◌, ◌++◌}
use Rattle.lm_ots.specs.Walks.{values}
use Rattle.lm_ots.proofs.one_time_keys.OtsKey.put_values.Given as goal

abbrev pub invariant-loop-i : goal.invariant-loop-i
invariant-loop-i l = l.to.items ≡ l.fn.to.items ++ values l.walks l.i
