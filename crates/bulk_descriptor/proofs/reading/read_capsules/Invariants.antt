use Rattle.std.proofs.Common.{◌≡◌, ◌≤◌, ◌-◌, ◌*◌, ◌++◌, length}
use Rattle.bulk_descriptor.specs.Descriptor.{parts_of}
use Rattle.bulk_descriptor.proofs.reading.read_capsules.Given as goal

-- those read and those that are left are all
abbrev pub invariant-loop : goal.invariant-loop
invariant-loop l = record {
  room : 2240 * (l.count - l.counter) ≤ length l.rest;
  all : l.capsules.items ++ parts_of 2240 (l.count - l.counter) l.rest ≡ parts_of 2240 l.count l.bytes;
}
