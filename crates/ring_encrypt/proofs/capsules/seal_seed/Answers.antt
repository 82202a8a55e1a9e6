use Rattle.std.proofs.Common.{refl}
use Rattle.ring_encrypt.specs.Capsule.{capsule_of}
use Rattle.ring_encrypt.proofs.capsules.seal_seed.Goals as goal

pub returns : goal.returns
unfolding capsule_of
returns c = rw (c.seal_with.ensures, c.coins_of-coins.ensures, c.draw_uniform.ensures, c.rho.ensures, c.polynomial.ensures) refl
