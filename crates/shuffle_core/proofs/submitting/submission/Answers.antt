use Rattle.std.proofs.Common.{arith}
use Rattle.layer_cipher.proofs.WrapLemmas.{wrapping_adds}
use Rattle.shuffle_core.proofs.submitting.submission.Goals as goal

pub wrap-requires-2-clause-length : goal.wrap-requires-2-clause-length
wrap-requires-2-clause-length c =
    let inner = c.args.inner.now in
    let seeds = c.args.inner_seeds.now in
    rw (c.deref.ensures.value, c.in_ok-inner_ciphertext.ensures)
    (omega (arith, wrapping_adds inner.items seeds.items c.args.item.now (omega (arith, inner.ok.0, seeds.ok.0)), inner.ok.0))
