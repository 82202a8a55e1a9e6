use Rattle.group_roster.proofs.Keys.{AreRight}
use Rattle.group_roster.proofs.binary.check_keys.Given as goal

abbrev pub invariant-loop-k : goal.invariant-loop-k
invariant-loop-k l = AreRight l.bytes l.k
