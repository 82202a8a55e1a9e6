use Rattle.std.proofs.Common.{◌+◌, ◌*◌, arith, rules, sym}
use Rattle.ring_encrypt.specs.Opening.{opened_bit}
use Rattle.ring_encrypt.proofs.BitLemmas.{bits-none, byte-more}
use Rattle.ring_encrypt.proofs.OpeningLemmas.{opened_bit_small}
use Rattle.ring_encrypt.proofs.opening.read_byte.Goals as goal

pub loop-i-init : goal.loop-i-init
loop-i-init c = sym (bits-none (λ i. opened_bit c.args.v.now c.args.us.now (8 * c.args.j + i)))

pub overflow_add-byte : goal.overflow_add-byte
overflow_add-byte c = let small = (byte-more (λ i. opened_bit c.args.v.now c.args.us.now (8 * c.args.j + i)) c.loop-i.i c.loop-i.byte
    c.read_bit.result (omega arith) (λ k. opened_bit_small c.args.v.now c.args.us.now (8 * c.args.j + k)) c.loop-i.invariant
    (rw c.get.ensures.value at c.read_bit.ensures.value)).1 in search rules

pub loop-i-preserved : goal.loop-i-preserved
loop-i-preserved c = (byte-more (λ i. opened_bit c.args.v.now c.args.us.now (8 * c.args.j + i)) c.loop-i.i c.loop-i.byte c.read_bit.result
    (omega arith) (λ k. opened_bit_small c.args.v.now c.args.us.now (8 * c.args.j + k)) c.loop-i.invariant
    (rw c.get.ensures.value at c.read_bit.ensures.value)).0
