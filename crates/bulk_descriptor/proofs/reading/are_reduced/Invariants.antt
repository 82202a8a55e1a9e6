use Rattle.std.proofs.Common.{◌≡◌, ◌-◌, ◌*◌, length}
use Rattle.std.specs.List.{list_all}
use Rattle.ring_encrypt.specs.Reduced.{is_reduced}
use Rattle.bulk_descriptor.specs.Descriptor.{parts_of}
use Rattle.bulk_descriptor.proofs.reading.are_reduced.Given as goal

-- the capsules that are left tell for all
abbrev pub invariant-loop : goal.invariant-loop
invariant-loop l = record {
  room : length l.rest ≡ 2240 * (l.count - l.counter);
  tells : list_all is_reduced (parts_of 2240 (l.count - l.counter) l.rest) ≡ list_all is_reduced (parts_of 2240 l.count l.bytes);
}
