use Rattle.std.proofs.Common.{◌≡◌, take}
use Rattle.bulk_descriptor.specs.Descriptor.{sealed_seeds}
use Rattle.bulk_descriptor.proofs.making.seal_seeds.Given as goal

abbrev pub invariant-loop-k : goal.invariant-loop-k
invariant-loop-k l = l.capsules.items ≡ sealed_seeds (take l.k l.keys.items) (take l.k l.seeds.items)
