use Rattle.std.proofs.Common.{◌≡◌, ◌*◌, length, take, min}
use Rattle.pad_stream.specs.Stream.{stream_of}
use Rattle.pad_stream.proofs.pads.is_stream.Given as goal

-- the parts so far are as drawn
abbrev pub invariant-loop-i : goal.invariant-loop-i
invariant-loop-i l = take (min (256 * l.i) (length l.sent)) l.sent ≡ stream_of l.key (min (256 * l.i) (length l.sent))
