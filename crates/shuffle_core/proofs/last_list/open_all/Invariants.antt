use Rattle.std.proofs.Common.{◌≡◌, map}
use Rattle.std.specs.Option.{option_and_then}
use Rattle.shuffle_core.specs.Shuffle.{body_of}
use Rattle.shuffle_core.proofs.last_list.open_all.Given as goal

-- the items so far, with a layer more off
abbrev pub invariant-loop-item : goal.invariant-loop-item
invariant-loop-item l = l.opened.items ≡ map (option_and_then (body_of l.key)) l.yielded
