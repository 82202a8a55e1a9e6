use Rattle.std.proofs.Common.{◌≡◌, map, take, Some}
use Rattle.shuffle_core.proofs.last_list.copies.Given as goal

-- copies of the entries so far
abbrev pub invariant-loop-entry : goal.invariant-loop-entry
invariant-loop-entry l = l.items.items ≡ map Some (take l.entry-index l.list)
