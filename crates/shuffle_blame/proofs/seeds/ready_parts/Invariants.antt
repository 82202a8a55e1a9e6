use Rattle.std.proofs.Common.{◌≡◌, take}
use Rattle.shuffle_blame.specs.Rules.{shown_by}
use Rattle.shuffle_blame.proofs.seeds.ready_parts.Given as goal

-- the parts so far
abbrev pub invariant-loop-one : goal.invariant-loop-one
invariant-loop-one l = shown_by l.parts.items ≡ take l.one-index l.shown
