use Rattle.std.proofs.Common.{◌≡◌, ◌*◌, ◌+◌, ◌/◌, ◌%◌, ◌<◌, ◌^◌, ap, ◌∙◌, refl, arith}
use Rattle.lm_ots.specs.OneTime.{checksum_shift, complement_sum, digit_bits, u16str}
use Rattle.lm_ots.proofs.DigitSizes.{checksum_fits, complement_sum_bound, complement_sum_more, digit_values}
use Rattle.lm_ots.proofs.digits.checksum.Goals as goal

pub loop-i-init : goal.loop-i-init
unfolding complement_sum
loop-i-init c = refl

pub loop-i-preserved : goal.loop-i-preserved
loop-i-preserved c =
    complement_sum_more _ _ _ _ _ (rw c.w-w.ensures (digit_values c.args.width)) c.loop-i.invariant c.coef.ensures

pub overflow_add-sum : goal.overflow_add-sum
overflow_add-sum c =
    let small = digit_values c.args.width in
    let more = complement_sum_more _ _ _ _ _ (rw c.w-w.ensures small) c.loop-i.invariant c.coef.ensures in
    let bound = complement_sum_bound c.args.width c.args.digest.now (c.loop-i.i + 1)
    (rw (← c.w-w.ensures) (omega arith)) in
    omega (arith, more, rw (← c.w-w.ensures) at bound)

pub overflow_cast-sum : goal.overflow_cast-sum
overflow_cast-sum c =
    let all : c.loop-i.i ≡ 256 / c.w-w.result = omega arith in
    let fits = checksum_fits c.args.width c.args.digest.now in
    let value : c.loop-i.sum * 2 ^ c.ls.result < 2 ^ 16 =
    rw (c.ls.ensures, c.loop-i.invariant, all, c.w-w.ensures) fits in
    omega arith

pub returns : goal.returns
returns c =
    let all : c.loop-i.i ≡ 256 / c.w-w.result = omega arith in
    let fits = checksum_fits c.args.width c.args.digest.now in
    let value : c.loop-i.sum * 2 ^ c.ls.result
    ≡ complement_sum c.args.digest.now (digit_bits c.args.width) (256 / digit_bits c.args.width)
    * 2 ^ checksum_shift c.args.width =
    rw (c.ls.ensures, c.loop-i.invariant, all, c.w-w.ensures) refl in
    let small : c.loop-i.sum * 2 ^ c.ls.result % 4294967296 ≡ c.loop-i.sum * 2 ^ c.ls.result = omega arith in
    c.u16str.ensures ∙ ap u16str (small ∙ value)
