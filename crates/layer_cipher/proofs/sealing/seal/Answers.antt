use Rattle.std.proofs.Common.{refl, arith}
use Rattle.layer_cipher.specs.Layer.{layer_of}
use Rattle.layer_cipher.proofs.LayerLemmas.{length-masked}
use Rattle.layer_cipher.proofs.sealing.seal.Goals as goal

pub check_value-requires : goal.check_value-requires
check_value-requires c = rw (c.deref.ensures.value, c.in_ok-masked.ensures) (omega (arith, length-masked c.args.m.now c.args.body.now))

pub returns : goal.returns
unfolding layer_of
returns c =
    rw (
      c.in_ok-put_bytes-3.ensures.ok,
      c.in_ok-put_bytes-2.ensures.ok,
      c.in_ok-put_bytes.ensures.ok,
      c.in_ok-layer.ensures.items,
      c.bytes.ensures.value,
      c.seal_seed.ensures,
      c.check_value.ensures,
      c.deref.ensures.value,
      c.deref-2.ensures.value,
      c.in_ok-masked.ensures,
    ) refl
