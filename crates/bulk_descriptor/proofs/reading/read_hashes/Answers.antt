use Rattle.std.proofs.Common.{◌∙◌, arith}
use Rattle.bulk_descriptor.proofs.CodeLemmas.{parts-more, parts-done}
use Rattle.bulk_descriptor.proofs.reading.read_hashes.Goals as goal

pub loop-preserved : goal.loop-preserved
loop-preserved c = record {
  room = omega (arith, c.split_at.ensures.back_len, c.loop.invariant.room, c.loop-test.true);
  all = rw c.in_ok-push.ensures.items
      (parts-more 32 c.args.count c.loop.counter c.args.bytes.now c.loop.rest.now c.hash_in.result c.split_at.result.1.now
      c.loop.hashes.items c.loop-test.true c.loop.invariant.all (c.hash_in.ensures ∙ c.split_at.ensures.front) c.split_at.ensures.back);
}

pub returns : goal.returns
returns c = parts-done 32 c.args.count c.loop.counter c.args.bytes.now c.loop.rest.now c.loop.hashes.items c.loop-test.false
    c.loop.invariant.all
