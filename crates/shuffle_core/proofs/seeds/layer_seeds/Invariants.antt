use Rattle.std.proofs.Common.{◌≡◌}
use Rattle.shuffle_core.specs.Shuffle.{layer_seeds_of}
use Rattle.shuffle_core.proofs.seeds.layer_seeds.Given as goal

-- the seeds of the first k layers
abbrev pub invariant-loop-k : goal.invariant-loop-k
invariant-loop-k l = l.seeds.items ≡ layer_seeds_of l.opening l.round l.shuffle l.side l.member l.k
