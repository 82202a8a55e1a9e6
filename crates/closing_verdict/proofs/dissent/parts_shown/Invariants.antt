use Rattle.std.proofs.Common.{◌≡◌, map, take}
use Rattle.closing_verdict.specs.Telling.{part_told}
use Rattle.closing_verdict.proofs.dissent.parts_shown.Given as goal

-- the parts that were told so far
abbrev pub invariant-loop-one : goal.invariant-loop-one
invariant-loop-one l = l.shown.items ≡ map part_told (take l.one-index l.told)
