use Rattle.std.proofs.Common.{◌≡◌, drop}
use Rattle.group_spec.specs.Scripts.{fault_in}
use Rattle.group_threads.proofs.scripted.fault_of.Given as goal

abbrev pub invariant-loop-line : goal.invariant-loop-line
invariant-loop-line l = fault_in (drop l.line-index l.lines.items) l.member ≡ fault_in l.lines.items l.member
