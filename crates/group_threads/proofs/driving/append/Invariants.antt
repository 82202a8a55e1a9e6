use Rattle.std.proofs.Common.{◌≡◌, ◌++◌}
use Rattle.group_threads.proofs.driving.append.Given as goal

abbrev pub invariant-loop-entry : goal.invariant-loop-entry
invariant-loop-entry l = l.queue.items ≡ l.fn.queue.items ++ l.yielded
