use Rattle.std.proofs.Common.{◌≡◌, map}
use Rattle.std.specs.List.{range_with_len}
use Rattle.group_spec.specs.Scripts.{fault_in}
use Rattle.group_threads.proofs.scripted.faults_of.Given as goal

abbrev pub invariant-loop-place : goal.invariant-loop-place
invariant-loop-place l = l.faults.items ≡ map (fault_in l.script.faults) (range_with_len 1 l.place)
