use Rattle.std.proofs.Common.{◌≡◌, map}
use Rattle.std.specs.List.{range_with_len}
use Rattle.wire_core.specs.Hash.{derived}
use Rattle.honest_say.proofs.secrets.pad_seeds.Given as goal

-- the seeds for the first members
abbrev pub invariant-loop-place : goal.invariant-loop-place
invariant-loop-place l = l.seeds.items ≡ map (derived l.fresh l.round 12) (range_with_len 1 l.place)
