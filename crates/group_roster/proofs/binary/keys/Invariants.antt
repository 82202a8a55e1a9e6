use Rattle.std.proofs.Common.{◌≡◌}
use Rattle.group_roster.specs.Binary.{keys_at}
use Rattle.group_roster.proofs.binary.keys.Given as goal

abbrev pub invariant-loop-k : goal.invariant-loop-k
invariant-loop-k l = l.keys.items ≡ keys_at l.bytes l.k
