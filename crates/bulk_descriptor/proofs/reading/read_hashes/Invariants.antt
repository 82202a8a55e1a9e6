use Rattle.std.proofs.Common.{◌≡◌, ◌≤◌, ◌-◌, ◌*◌, ◌++◌, length}
use Rattle.bulk_descriptor.specs.Descriptor.{parts_of}
use Rattle.bulk_descriptor.proofs.reading.read_hashes.Given as goal

-- those read and those that are left are all
abbrev pub invariant-loop : goal.invariant-loop
invariant-loop l = record {
  room : 32 * (l.count - l.counter) ≤ length l.rest;
  all : l.hashes.items ++ parts_of 32 (l.count - l.counter) l.rest ≡ parts_of 32 l.count l.bytes;
}
