use Rattle.std.proofs.Common.{◌*◌, ◌≡◌, ◌+◌, ◌++◌, arith, append-nil, length, take, min}
use Rattle.std.proofs.lemmas.List.{length-take-le}
use Rattle.pad_stream.specs.Stream.{stream_of, bytes_from}
use Rattle.pad_stream.proofs.StreamLemmas.{stream_of-none, stream_of-more}
use Rattle.pad_stream.proofs.pads.hash_stream.Goals as goal

pub loop-i-init : goal.loop-i-init
loop-i-init c = λ m h. let none : min 0 c.args.length ≡ 0 = omega arith in rw
    (stream_of-none c.args.key.now (min 0 c.args.length) none, append-nil) h

pub loop-i-preserved : goal.loop-i-preserved
loop-i-preserved c = λ m h.
    let i = c.loop-i.i in
    let size = c.min-size.result in
    let part : length (take size c.loop-i.buffer) ≡ size = length-take-le size c.loop-i.buffer (omega arith) in
    let drawn : c.draw.new.out ≡ bytes_from c.args.key.now (4 * (64 * i)) size = rw part at c.draw.ensures in
    let so_far = c.loop-i.invariant m h in
    let joined : (m ++ stream_of c.args.key.now (min (256 * i) c.args.length)) ++ c.draw.new.out ≡ m
    ++ stream_of c.args.key.now (min (256 * (i + 1)) c.args.length)
    = stream_of-more c.args.key.now m c.draw.new.out (64 * i) (min (256 * i) c.args.length) size (min (256 * (i + 1)) c.args.length)
    (omega arith) (omega arith) drawn in
    rw joined at (c.update.ensures (m ++ stream_of c.args.key.now (min (256 * i) c.args.length)) so_far)
