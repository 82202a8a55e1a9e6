use Rattle.std.proofs.Common.{◌*◌, ◌/◌, ◌%◌, ◌<◌, get_or, arith, rules, pos, ◌+ℤ◌}
use Rattle.std.proofs.lemmas.List.FromFn.{fill_by_all}
use Rattle.std.proofs.lemmas.List.Elements.{All-from_get_or}
use Rattle.std.proofs.lemmas.Nat.Bits.{shr_and_one}
use Rattle.ring_poly.proofs.Words.{read_back_byte}
use Rattle.ring_poly.specs.Residue.{residue}
use Rattle.ring_poly.specs.Product.{coefficient}
use Rattle.ring_poly.proofs.Residues.{residue_below}
use Rattle.ring_encrypt.specs.Capsule.{message_bit, carried}
use Rattle.ring_encrypt.proofs.Filling.{fill_more}
use Rattle.ring_encrypt.proofs.capsules.carry.Goals as goal

pub loop-c-preserved : goal.loop-c-preserved
loop-c-preserved c =
    let k = c.loop-c.c in
    let kept = read_back_byte c.get-in-loop-c.result (omega (arith, c.get-in-loop-c.ensures.trit)) in
    let bit = shr_and_one (get_or c.args.m.now (k / 8) 0) (k % 8) in
    record {
      long = search rules;
      carried = fill_more (λ k. residue (pos (get_or c.args.product.now k 0) +ℤ coefficient c.args.error.now k +ℤ pos
          (6144 * message_bit c.args.m.now k))) c.loop-c.v c.loop-c.c c.carrying.result 0 (omega arith)
          (rw (bit, kept, c.get-in-loop-c.ensures.value, c.get.ensures.value) at c.carrying.ensures.value) c.loop-c.invariant.carried;
    }

pub returns-clause-value : goal.returns-clause-value
unfolding carried
returns-clause-value c = fill_by_all (λ k. residue (pos (get_or c.args.product.now k 0) +ℤ coefficient c.args.error.now k +ℤ pos
    (6144 * message_bit c.args.m.now k))) c.loop-c.v 256 0 c.loop-c.invariant.long (λ k h. c.loop-c.invariant.carried k (omega arith))

pub returns-clause-reduced : goal.returns-clause-reduced
returns-clause-reduced c = All-from_get_or (λ x. x < 12289) c.loop-c.v 0
    (λ k h. rw (c.loop-c.invariant.carried k (omega arith)) (residue_below
    (pos (get_or c.args.product.now k 0) +ℤ coefficient c.args.error.now k +ℤ pos (6144 * message_bit c.args.m.now k))))
