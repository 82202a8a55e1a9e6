use Rattle.std.proofs.Common.{◌≡◌, map}
use Rattle.std.specs.List.{range_with_len}
use Rattle.group_threads.specs.Scripted.{script_secret}
use Rattle.group_threads.proofs.scripted.secrets_of.Given as goal

abbrev pub invariant-loop-place : goal.invariant-loop-place
invariant-loop-place l = l.keys.items ≡ map (script_secret l.script) (range_with_len 1 l.place)
