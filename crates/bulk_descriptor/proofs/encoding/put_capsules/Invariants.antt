use Rattle.std.proofs.Common.{◌≡◌, ◌++◌, take}
use Rattle.std.specs.List.{concat}
use Rattle.bulk_descriptor.proofs.encoding.put_capsules.Given as goal

abbrev pub invariant-loop-capsule : goal.invariant-loop-capsule
invariant-loop-capsule l = l.out.items ≡ l.fn.out.items ++ concat (take l.capsule-index l.capsule-items)
