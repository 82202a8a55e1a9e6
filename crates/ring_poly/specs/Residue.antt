-- Integers modulo 12289.
use Rattle.std.specs.Prelude.{ℕ, ◌-◌, ◌%◌, ℤ, pos, negsuc}
use Rattle.ring_poly.specs.declared.TheConstants.{MODULUS}

-- the one of 0 to 12288 that differs from z by a multiple of 12289. `negsuc n` is -(n + 1)
abbrev pub residue : ℤ → ℕ
residue (pos n) = n % MODULUS
residue (negsuc n) = MODULUS - 1 - n % MODULUS
