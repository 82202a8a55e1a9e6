use Rattle.std.proofs.Common.{◌≡◌, replicate, None}
use Rattle.faulty_member.proofs.flipping.no_items.Given as goal

-- so many entries so far
abbrev pub invariant-loop : goal.invariant-loop
invariant-loop l = l.items.items ≡ replicate l.counter None
