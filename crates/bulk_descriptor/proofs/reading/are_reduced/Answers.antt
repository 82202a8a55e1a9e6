use Rattle.std.proofs.Common.{sym, ap, ◌∙◌, arith}
use Rattle.ring_encrypt.specs.Reduced.{is_reduced}
use Rattle.bulk_descriptor.proofs.CodeLemmas.{reduced-stops, reduced-goes_on, reduced-done}
use Rattle.bulk_descriptor.proofs.reading.are_reduced.Goals as goal

pub returns-then-not-is_reduced : goal.returns-then-not-is_reduced
returns-then-not-is_reduced c =
    reduced-stops c.args.count c.loop.counter c.args.bytes.now c.loop.rest.now c.split_at.result.0.now c.is_reduced.result c.loop-test.true
    c.loop.invariant.tells
    c.split_at.ensures.front (c.is_reduced.ensures ∙ ap is_reduced c.read_capsule.ensures) c.if-not-is_reduced.true

pub loop-preserved : goal.loop-preserved
loop-preserved c = record {
  room = omega (arith, c.split_at.ensures.back_len, c.loop.invariant.room, c.loop-test.true);
  tells = reduced-goes_on c.args.count c.loop.counter c.args.bytes.now c.loop.rest.now c.split_at.result.0.now c.split_at.result.1.now
      c.is_reduced.result c.loop-test.true c.loop.invariant.tells
      c.split_at.ensures.front c.split_at.ensures.back (c.is_reduced.ensures ∙ ap is_reduced c.read_capsule.ensures)
      c.if-not-is_reduced.false;
}

pub returns : goal.returns
returns c = sym (reduced-done c.args.count c.loop.counter c.loop.rest.now c.loop-test.false) ∙ c.loop.invariant.tells
