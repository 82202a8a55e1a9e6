use Rattle.std.proofs.Common.{ℕ, ◌*◌, List, ◌++◌, min}
use Rattle.sha2.specs.Hashers.{Holds256}
use Rattle.pad_stream.specs.Stream.{stream_of}
use Rattle.pad_stream.proofs.pads.hash_stream.Given as goal

-- the parts so far are in the hasher
abbrev pub invariant-loop-i : goal.invariant-loop-i
invariant-loop-i l = (m : List ℕ) → Holds256 l.fn.hasher m → Holds256 l.hasher (m ++ stream_of l.key (min (256 * l.i) l.length))
