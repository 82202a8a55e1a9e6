use Rattle.std.proofs.Common.{◌≡◌, map}
use Rattle.group_threads.specs.Scripted.{leaves_of, spare_of}
use Rattle.group_threads.proofs.scripted.runs_of.Given as goal

abbrev pub invariant-loop-key : goal.invariant-loop-key
invariant-loop-key l = record {
  own : l.leaves.items ≡ map leaves_of l.yielded;
  spare : l.spare.items ≡ map spare_of l.yielded;
}
