use Rattle.std.proofs.Common.{◌≡◌, map, take}
use Rattle.closing_verdict.specs.Telling.{seed_told}
use Rattle.closing_verdict.proofs.seeds.seeds_revealed.Given as goal

-- the seeds that were told so far
abbrev pub invariant-loop-one : goal.invariant-loop-one
invariant-loop-one l = l.seeds.items ≡ map seed_told (take l.one-index l.told)
