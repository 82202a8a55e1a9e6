use Rattle.std.proofs.Common.{◌≡◌, replicate, None}
use Rattle.honest_say.proofs.opening.no_items.Given as goal

-- so many entries so far
abbrev pub invariant-loop : goal.invariant-loop
invariant-loop l = l.items.items ≡ replicate l.counter None
