use Rattle.std.proofs.Common.{◌≡◌, ◌+◌, ◌*◌, min, length, take, true, arith, sym, ◌∙◌, refl}
use Rattle.pad_stream.specs.Stream.{stream_of}
use Rattle.pad_stream.proofs.StreamLemmas.{stream_of-none, part-drawn, part-after-drawn}
use Rattle.pad_stream.proofs.pads.is_stream.Goals as goal

pub loop-i-init : goal.loop-i-init
loop-i-init c =
    let none : min 0 (length c.args.sent.now) ≡ 0 = omega arith in
    rw (stream_of-none c.args.key.now (min 0 (length c.args.sent.now)) none, none) refl

pub returns-then-not-is_drawn : goal.returns-then-not-is_drawn
returns-then-not-is_drawn c =
    let from = 256 * c.loop-i.i in
    let to = from + c.min-size.result in (
      λ e. absurd (cc),
      λ drawn. let yes : c.is_drawn.result ≡ true = c.is_drawn.ensures.1
          (part-drawn c.args.key.now c.args.sent.now (64 * c.loop-i.i) from to (omega arith) (omega arith) (omega arith) drawn) in sym
          c.if-not-is_drawn.true ∙ yes,
    )

pub loop-i-preserved : goal.loop-i-preserved
loop-i-preserved c =
    let from = 256 * c.loop-i.i in
    let to = from + c.min-size.result in
    let here : min from (length c.args.sent.now) ≡ from = omega arith in
    let next : min (256 * (c.loop-i.i + 1)) (length c.args.sent.now) ≡ to = omega arith in
    let before : take from c.args.sent.now ≡ stream_of c.args.key.now from = rw here at c.loop-i.invariant in
    rw next (part-after-drawn c.args.key.now c.args.sent.now (64 * c.loop-i.i) from to (omega arith) (omega arith) (omega arith) before
    (c.is_drawn.ensures.0 c.if-not-is_drawn.false))
