use Rattle.ring_encrypt.proofs.KeyLemmas.{key_of_parts}
use Rattle.ring_encrypt.proofs.public_keys.PublicKey.of.Goals as goal

pub invariant_of-result : goal.invariant_of-result
invariant_of-result c = rw (c.join.ensures, c.pack.ensures.value) (key_of_parts c.args.rho.now c.args.b.now c.told-rho c.requires)
