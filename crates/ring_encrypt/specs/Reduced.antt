-- Capsules whose coefficients are below the modulus.
use Rattle.std.specs.Prelude.{ℕ, List, take, drop, Bool, ◌&&◌, IsTrue, is_none}
use Rattle.ring_poly.specs.declared.TheConstants.{PACKED_BYTES}
use Rattle.ring_poly.specs.Packing.{unpacked, first_too_large}
use Rattle.ring_encrypt.specs.Capsule.{capsule_of}

-- whether neither part of a capsule spells a coefficient of 12289 or more
unfoldable pub is_reduced : List ℕ → Bool
is_reduced capsule =
    is_none (first_too_large 0 (unpacked (take PACKED_BYTES capsule))) && is_none (first_too_large 0 (unpacked (drop PACKED_BYTES capsule)))

-- what is sealed spells no such coefficient, under whatever key
abbrev pub SealedIsReduced : Type 0
SealedIsReduced = (key m : List ℕ) → IsTrue (is_reduced (capsule_of key m))
