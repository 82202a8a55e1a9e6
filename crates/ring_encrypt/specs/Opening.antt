-- Opening a capsule.
use Rattle.std.specs.Prelude.{◌≡◌, ℕ, zero, suc, ◌+◌, ◌*◌, ◌^◌, List, length, take, drop, map, slice_index, ◌&&◌, Option, Some, None, nat_le, if◌then◌else◌, pos, ◌-ℤ◌, ◌↔◌}
use Rattle.std.specs.List.{range_with_len}
use Rattle.std.specs.Str.{bytes_eq}
use Rattle.wire_core.specs.Bytes.{IsBytes}
use Rattle.ring_poly.specs.declared.TheConstants.{PACKED_BYTES}
use Rattle.ring_poly.specs.Residue.{residue}
use Rattle.ring_poly.specs.Product.{product_of}
use Rattle.ring_poly.specs.Packing.{unpacked}
use Rattle.ring_encrypt.specs.declared.TheConstants.{CAPSULE_BYTES}
use Rattle.ring_encrypt.specs.PublicKey.{IsPublicKey}
use Rattle.ring_encrypt.specs.Capsule.{secret_of, key_of_seed, capsule_of}

-- 32 bytes
pub record IsMessage (m : List ℕ) : Type 0 where
  pub length : length m ≡ 32
  pub bytes : IsBytes m

-- the number of k bits, the lowest first
unfoldable pub number_of_bits : (ℕ → ℕ) → ℕ → ℕ
number_of_bits bit zero = 0
number_of_bits bit (suc k) = number_of_bits bit k + bit k * 2 ^ k

-- a coefficient of v - u s stands for 1 where it is nearer to half the modulus than to 0
abbrev pub bit_of_coefficient : ℕ → ℕ
bit_of_coefficient w = if nat_le 3073 w && nat_le w 9216 then 1 else 0

abbrev pub opened_bit : List ℕ → List ℕ → ℕ → ℕ
opened_bit v us c = bit_of_coefficient (residue (pos (slice_index v c) -ℤ pos (slice_index us c)))

-- the 32 bytes that v - u s stands for
unfoldable pub message_of : List ℕ → List ℕ → List ℕ
message_of v us = map (λ j. number_of_bits (λ i. opened_bit v us (8 * j + i)) 8) (range_with_len 0 32)

-- what the seed reads in a capsule, without a test
unfoldable pub decoded : List ℕ → List ℕ → List ℕ
decoded seed capsule =
    message_of (unpacked (drop PACKED_BYTES capsule)) (product_of (unpacked (take PACKED_BYTES capsule)) (secret_of seed))

-- What a seed opens a capsule to: what it reads there, if that sealed under its key is this very capsule
unfoldable pub opened : List ℕ → List ℕ → Option (List ℕ)
opened seed capsule =
    let m = decoded seed capsule in
    if bytes_eq capsule (capsule_of (key_of_seed seed) m) then Some m else None

-- a seed opens exactly what is sealed under its key
abbrev pub OpensExactly : Type 0
OpensExactly = (seed capsule m : List ℕ) →
    (opened seed capsule ≡ Some m) ↔ (IsMessage m × (capsule ≡ capsule_of (key_of_seed seed) m))

-- what is sealed under the key of a seed is read there, for every seed and message
abbrev pub SealedIsDecoded : Type 0
SealedIsDecoded = (seed m : List ℕ) → IsMessage m → decoded seed (capsule_of (key_of_seed seed) m) ≡ m

-- a capsule under the key of a seed has one message
abbrev pub CapsuleDetermines : Type 0
CapsuleDetermines = (seed m m' : List ℕ) → IsMessage m → IsMessage m' →
    capsule_of (key_of_seed seed) m ≡ capsule_of (key_of_seed seed) m' → m ≡ m'

-- seeds of one key open alike
abbrev pub KeyOpens : Type 0
KeyOpens = (seed seed' capsule : List ℕ) → key_of_seed seed ≡ key_of_seed seed' → opened seed capsule ≡ opened seed' capsule

-- the key of a seed is a public key
abbrev pub KeyIsPublicKey : Type 0
KeyIsPublicKey = (seed : List ℕ) → IsPublicKey (key_of_seed seed)

-- a capsule has 2,240 bytes
abbrev pub SealedIsAsLong : Type 0
SealedIsAsLong = (key m : List ℕ) → length (capsule_of key m) ≡ CAPSULE_BYTES
