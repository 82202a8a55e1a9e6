use Rattle.std.proofs.Common.{◌≡◌, take}
use Rattle.shuffle_core.specs.Shuffle.{opened_list}
use Rattle.shuffle_core.proofs.last_list.open_final.Given as goal

-- the entries with the layers so far off
abbrev pub invariant-loop-seed : goal.invariant-loop-seed
invariant-loop-seed l = l.items.items ≡ opened_list (take l.seed-index l.seeds.items) l.list.items
