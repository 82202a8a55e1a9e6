-- The bytes of a public key, honest or not.
use Rattle.std.specs.Prelude.{◌≡◌, ℕ, ◌<◌, List, length, drop, All}
use Rattle.ring_poly.specs.declared.TheConstants.{KEY_BYTES, MODULUS}
use Rattle.ring_poly.specs.Packing.{unpacked}

-- 1,824 bytes: 32, from which a polynomial is drawn, and 1,792 that spell 1,024 coefficients below the modulus
pub record IsPublicKey (bytes : List ℕ) : Type 0 where
  pub length : length bytes ≡ KEY_BYTES
  pub reduced : All (λ c. c < MODULUS) (unpacked (drop 32 bytes))
