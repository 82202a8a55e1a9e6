use Rattle.std.proofs.Common.{◌≡◌, map}
use Rattle.std.specs.List.{range_with_len}
use Rattle.group_roster.specs.Given.{roster_of}
use Rattle.group_threads.specs.Scripted.{entrance_of, script_entrance}
use Rattle.group_threads.proofs.scripted.configs_of.Given as goal

abbrev pub invariant-loop-place : goal.invariant-loop-place
invariant-loop-place l = map entrance_of l.configs.items ≡ map (script_entrance l.script (roster_of l.roster)) (range_with_len 1 l.place)
