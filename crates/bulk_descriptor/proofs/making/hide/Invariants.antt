use Rattle.std.proofs.Common.{◌≡◌, ◌++◌, take, map, length}
use Rattle.bulk_descriptor.specs.Descriptor.{hash_of_pad, pads_of, hidden_under}
use Rattle.bulk_descriptor.proofs.making.hide.Given as goal

-- the pads so far
abbrev pub invariant-loop-seed : goal.invariant-loop-seed
invariant-loop-seed l = record {
  hidden : l.bytes ≡ hidden_under l.fn.bytes (pads_of (take l.seed-index l.seeds) (length l.fn.bytes));
  hashed : l.hashes.items ≡ l.fn.hashes.items ++ map hash_of_pad (pads_of (take l.seed-index l.seeds) (length l.fn.bytes));
}
