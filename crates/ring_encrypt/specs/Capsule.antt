-- Keys of seeds, and what is sealed under a key.
use Rattle.std.specs.Prelude.{ℕ, ◌*◌, ◌/◌, ◌%◌, List, [], ◌∷◌, ◌++◌, take, drop, map, slice_index, ℤ, pos, ◌+ℤ◌}
use Rattle.std.specs.List.{range_with_len}
use Rattle.std.specs.Int.{bit_at}
use Rattle.wire_core.specs.declared.tag.Tag.TheVariants.{RingPublic, RingSecret, RingCoins}
use Rattle.wire_core.specs.Hash.{hash_of}
use Rattle.ring_poly.specs.Residue.{residue}
use Rattle.ring_poly.specs.Product.{product_of, sum_of, coefficient}
use Rattle.ring_poly.specs.Packing.{packed, unpacked}
use Rattle.ring_encrypt.specs.Draws.{uniform, ternary}

-- the secret polynomial of a seed, and the error in its key
abbrev pub secret_of : List ℕ → List ℤ
secret_of seed = ternary (hash_of RingSecret (seed ∷ [])) 0

abbrev pub error_of : List ℕ → List ℤ
error_of seed = ternary (hash_of RingSecret (seed ∷ [])) 64

-- the sum a s + e
abbrev pub masked_secret : List ℕ → List ℕ
masked_secret seed = sum_of (product_of (uniform (hash_of RingPublic (seed ∷ []))) (secret_of seed)) (map residue (error_of seed))

-- the public key of a seed: the 32 bytes from which a is drawn, and a s + e
unfoldable pub key_of_seed : List ℕ → List ℕ
key_of_seed seed = hash_of RingPublic (seed ∷ []) ++ packed (masked_secret seed)

-- bit c of a message
abbrev pub message_bit : List ℕ → ℕ → ℕ
message_bit m c = bit_at (slice_index m (c / 8)) (c % 8)

-- 256 coefficients that carry the bits of m: half the modulus for each bit that is 1, hidden by a product and an error
unfoldable pub carried : List ℕ → List ℤ → List ℕ → List ℕ
carried product error m =
    map (λ c. residue (pos (slice_index product c) +ℤ coefficient error c +ℤ pos (6144 * message_bit m c))) (range_with_len 0 256)

-- the two parts of a capsule, from the coins, a and b of the key: a r + d, and b r + e with the message
unfoldable pub sealed_with : List ℕ → List ℕ → List ℕ → List ℕ → List ℕ
sealed_with coins a b m =
    let r = ternary coins 0 in
    packed (sum_of (product_of a r) (map residue (ternary coins 64))) ++ packed (carried (product_of b r) (ternary coins 128) m)

-- the capsule of m under a key: all that is drawn comes from the key and m
unfoldable pub capsule_of : List ℕ → List ℕ → List ℕ
capsule_of key m = sealed_with (hash_of RingCoins (key ∷ m ∷ [])) (uniform (take 32 key)) (unpacked (drop 32 key)) m
