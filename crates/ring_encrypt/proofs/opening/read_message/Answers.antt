use Rattle.std.proofs.Common.{◌+◌, ◌*◌, arith, rules}
use Rattle.std.proofs.lemmas.List.FromFn.{fill_by_all}
use Rattle.ring_encrypt.specs.Opening.{opened_bit, number_of_bits, message_of}
use Rattle.ring_encrypt.proofs.Filling.{fill_more}
use Rattle.ring_encrypt.proofs.opening.read_message.Goals as goal

pub loop-j-preserved : goal.loop-j-preserved
loop-j-preserved c = record {
  long = search rules;
  read = fill_more (λ k. number_of_bits (λ i. opened_bit c.args.v.now c.args.us.now (8 * k + i)) 8) c.loop-j.m c.loop-j.j c.read_byte.result
      0 (omega arith) c.read_byte.ensures c.loop-j.invariant.read;
}

pub returns : goal.returns
unfolding message_of
returns c = fill_by_all (λ k. number_of_bits (λ i. opened_bit c.args.v.now c.args.us.now (8 * k + i)) 8) c.loop-j.m 32 0
    c.loop-j.invariant.long (λ k h. c.loop-j.invariant.read k (omega arith))
