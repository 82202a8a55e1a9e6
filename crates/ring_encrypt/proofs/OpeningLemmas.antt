-- What is sealed is read again, and nothing else opens.
use Rattle.std.proofs.Common.{◌≡◌, ℕ, zero, suc, ◌+◌, ◌*◌, ◌/◌, ◌%◌, ◌<◌, ◌≤◌, List, [], ◌∷◌, ◌++◌, length, get_or, take, drop, map, arith, ℤ, pos, ◌+ℤ◌, ◌-ℤ◌, unsigned_abs, refl, sym, ◌∙◌, ⊎_elim, Option, Some, None, Ok, Err, All, length-append}
use Rattle.std.specs.Prelude.{slice_index}
use Rattle.std.specs.Int.{bit_at}
use Rattle.std.proofs.lemmas.Int.{ints}
use Rattle.std.proofs.lemmas.Bool.Decides.{nat_tests}
use Rattle.std.proofs.lemmas.Nat.Bits.{bit_at-lt}
use Rattle.std.proofs.lemmas.List.{take_at, drop_at}
use Rattle.std.proofs.lemmas.List.Elements.{All-from_get_or}
use Rattle.std.proofs.lemmas.List.FromFn.{fill_by_all, length-map-range_with_len, get_or-map-range_with_len}
use Rattle.std.proofs.Math.Nat.{mod-eq_of_lt}
use Rattle.ring_poly.specs.Residue.{residue}
use Rattle.ring_poly.specs.Product.{IsTernary, product_of, sum_of, coefficient, product_at}
use Rattle.ring_poly.specs.Packing.{packed, unpacked, read_packed, unless_too_large, first_too_large}
use Rattle.ring_poly.proofs.Residues.{residue_below, residue_masked, residue_near_zero, residue_near_half}
use Rattle.ring_poly.proofs.Integers.{abs-add, abs-sub, add-zero_right}
use Rattle.ring_poly.specs.declared.packing.CoefficientTooLarge.{CoefficientTooLarge}
use Rattle.ring_poly.proofs.Packings.{packed_is_read_back}
use Rattle.ring_poly.proofs.Products.{length-sum_of, get_or-sum_of}
use Rattle.ring_poly.proofs.ProductLaws.{product_is_small, mask_cancels}
use Rattle.wire_core.specs.declared.tag.Tag.TheVariants.{RingPublic, RingSecret, RingCoins}
use Rattle.wire_core.specs.Hash.{hash_of}
use Rattle.wire_core.proofs.ByteLists.{hash_bytes}
use Rattle.ring_encrypt.specs.Draws.{uniform, ternary}
use Rattle.ring_encrypt.specs.Capsule.{secret_of, error_of, masked_secret, key_of_seed, message_bit, carried, sealed_with, capsule_of}
use Rattle.ring_encrypt.specs.Opening.{IsMessage, number_of_bits, bit_of_coefficient, opened_bit, message_of, decoded, SealedIsDecoded, SealedIsAsLong}
use Rattle.ring_encrypt.proofs.BitLemmas.{bits-of, bits-same}
use Rattle.ring_encrypt.proofs.Trits.{ternary_is_ternary, length-uniform}

-- ---- one bit
pub bit_small : (w : ℕ) → bit_of_coefficient w ≤ 1
bit_small w = grind (arith, nat_tests)

pub opened_bit_small : (v us : List ℕ) (c : ℕ) → opened_bit v us c ≤ 1
opened_bit_small v us c = bit_small (residue (pos (slice_index v c) -ℤ pos (slice_index us c)))

bit_near : (w : ℕ) → 3073 ≤ w → w ≤ 9216 → bit_of_coefficient w ≡ 1
bit_near w low high = grind (arith, nat_tests)

bit_below : (w : ℕ) → w < 3073 → bit_of_coefficient w ≡ 0
bit_below w low = grind (arith, nat_tests)

bit_above : (w : ℕ) → 9216 < w → bit_of_coefficient w ≡ 0
bit_above w high = grind (arith, nat_tests)

-- a small number, with half the modulus or without
bit_of_noise : (z : ℤ) (bit : ℕ) → unsigned_abs z ≤ 2049 → bit < 2 → bit_of_coefficient (residue (z +ℤ pos (6144 * bit))) ≡ bit
bit_of_noise z zero h small =
    let same : z +ℤ pos 0 ≡ z = add-zero_right z in
    rw same (⊎_elim (λ low. bit_below (residue z) (omega arith)) (λ high. bit_above (residue z) (omega arith)) (residue_near_zero z h))
bit_of_noise z (suc bit) h small =
    let none : bit ≡ 0 = omega arith in
    let near = residue_near_half z h in
    rw none (bit_near (residue (z +ℤ pos 6144)) (omega arith) (omega arith))

-- a coefficient that carries a bit, less what hides it
bit_read : (x y bit : ℕ) (e z : ℤ) → residue (pos x -ℤ pos y) ≡ residue z → unsigned_abs (z +ℤ e) ≤ 2049 → bit < 2
    → bit_of_coefficient (residue (pos (residue (pos x +ℤ e +ℤ pos (6144 * bit))) -ℤ pos y)) ≡ bit
bit_read x y bit e z hidden small binary =
    let apart : pos x +ℤ e +ℤ pos (6144 * bit) ≡ pos x +ℤ (e +ℤ pos (6144 * bit)) = omega (arith, ints) in
    let whole : z +ℤ (e +ℤ pos (6144 * bit)) ≡ z +ℤ e +ℤ pos (6144 * bit) = omega (arith, ints) in
    let left : residue (pos (residue (pos x +ℤ (e +ℤ pos (6144 * bit)))) -ℤ pos y) ≡ residue (z +ℤ (e +ℤ pos (6144 * bit))) = residue_masked
    x y (e +ℤ pos (6144 * bit)) z hidden in
    rw (apart, left, whole) (bit_of_noise (z +ℤ e) bit small binary)

-- ---- the parts of a key and of a capsule
pub sum_of-reduced : (f g : List ℕ) → All (λ c. c < 12289) (sum_of f g)
sum_of-reduced f g = All-from_get_or (λ c. c < 12289) (sum_of f g) 0
    (λ k h. let below : k < 1024 = omega (arith, length-sum_of f g) in rw (get_or-sum_of f g k below)
    (residue_below (pos (slice_index f k) +ℤ pos (slice_index g k))))

length-carried : (product : List ℕ) (error : List ℤ) (m : List ℕ) → length (carried product error m) ≡ 256
unfolding carried
length-carried product error m = length-map-range_with_len (λ c. residue
    (pos (slice_index product c) +ℤ coefficient error c +ℤ pos (6144 * message_bit m c))) 0 256

get_or-carried : (product : List ℕ) (error : List ℤ) (m : List ℕ) (c : ℕ) → c < 256
    → get_or (carried product error m) c 0 ≡ residue (pos (slice_index product c) +ℤ coefficient error c +ℤ pos (6144 * message_bit m c))
unfolding carried
get_or-carried product error m c h =
    get_or-map-range_with_len (λ c. residue (pos (slice_index product c) +ℤ coefficient error c +ℤ pos (6144 * message_bit m c))) 0 256 c c
    0 h (omega arith)

carried-reduced : (product : List ℕ) (error : List ℤ) (m : List ℕ) → All (λ c. c < 12289) (carried product error m)
carried-reduced product error m =
    All-from_get_or (λ c. c < 12289) (carried product error m) 0
    (λ k h. let below : k < 256 = omega (arith, length-carried product error m) in
    rw (get_or-carried product error m k below) (residue_below (pos (slice_index product k) +ℤ coefficient error k +ℤ pos
    (6144 * message_bit m k))))

read_cases : (cs f : List ℕ) (o : Option CoefficientTooLarge) → unless_too_large cs o ≡ Ok f → (cs ≡ f) × (o ≡ None)
read_cases cs f None e = (let x = e in cc, refl)
read_cases cs f (Some r) e = cc

-- the two parts of a capsule, read back
pub record Parts (capsule u v : List ℕ) : Type 0 where
  pub length : length capsule ≡ 2240
  pub front : take 1792 capsule ≡ packed u
  pub back : drop 1792 capsule ≡ packed v
  pub first : read_packed (take 1792 capsule) ≡ Ok u
  pub second : read_packed (drop 1792 capsule) ≡ Ok v

parts_of : (u v : List ℕ) → length u ≡ 1024 → All (λ c. c < 12289) u → length v ≡ 256 → All (λ c. c < 12289) v
    → Parts (packed u ++ packed v) u v
parts_of u v long reduced short reduced' =
    let p = packed_is_read_back 256 u long reduced in
    let q = packed_is_read_back 64 v short reduced' in
    let front : take 1792 (packed u ++ packed v) ≡ packed u = take_at (packed u) (packed v) 1792 p.0 in
    let back : drop 1792 (packed u ++ packed v) ≡ packed v = drop_at (packed u) (packed v) 1792 p.0 in
    record {
      length = omega (arith, length-append (packed u) (packed v), p.0, q.0);
      front = front;
      back = back;
      first = rw front p.1;
      second = rw back q.1;
    }

pub read_gives : (bytes f : List ℕ) → read_packed bytes ≡ Ok f → (unpacked bytes ≡ f) × (first_too_large 0 (unpacked bytes) ≡ None)
read_gives bytes f e = read_cases (unpacked bytes) f (first_too_large 0 (unpacked bytes)) e

-- what a capsule's parts are: a r + d, and what carries the message
pub u_of : List ℕ → List ℕ → List ℕ
u_of coins a = sum_of (product_of a (ternary coins 0)) (map residue (ternary coins 64))

pub v_of : List ℕ → List ℕ → List ℕ → List ℕ
v_of coins b m = carried (product_of b (ternary coins 0)) (ternary coins 128) m

pub sealed_parts : (coins a b m : List ℕ) → Parts (sealed_with coins a b m) (u_of coins a) (v_of coins b m)
unfolding sealed_with u_of v_of
sealed_parts coins a b m =
    parts_of (u_of coins a) (v_of coins b m)
    (length-sum_of (product_of a (ternary coins 0)) (map residue (ternary coins 64)))
    (sum_of-reduced (product_of a (ternary coins 0)) (map residue (ternary coins 64)))
    (length-carried (product_of b (ternary coins 0)) (ternary coins 128) m)
    (carried-reduced (product_of b (ternary coins 0)) (ternary coins 128) m)

-- the key of a seed, taken apart
key_front : (seed : List ℕ) → take 32 (key_of_seed seed) ≡ hash_of RingPublic (seed ∷ [])
unfolding key_of_seed
key_front seed = take_at (hash_of RingPublic (seed ∷ [])) (packed (masked_secret seed)) 32 (hash_bytes RingPublic (seed ∷ [])).0

key_back : (seed : List ℕ) → drop 32 (key_of_seed seed) ≡ packed (masked_secret seed)
unfolding key_of_seed
key_back seed = drop_at (hash_of RingPublic (seed ∷ [])) (packed (masked_secret seed)) 32 (hash_bytes RingPublic (seed ∷ [])).0

-- ---- the noise
-- e r + e' - d s, for five drawn polynomials of -1, 0 and 1
noise_small : (e r d s e' : List ℤ) (c : ℕ) → IsTernary e → IsTernary r → IsTernary d → IsTernary s → IsTernary e' → c < 1024
    → unsigned_abs (product_at e r c -ℤ product_at d s c +ℤ coefficient e' c) ≤ 2049
noise_small e r d s e' c te tr td ts te' h =
    let first : unsigned_abs (product_at e r c) ≤ 1024 = product_is_small e r 1 c te.length te.trits tr h in
    let second : unsigned_abs (product_at d s c) ≤ 1024 = product_is_small d s 1 c td.length td.trits ts h in
    let third : unsigned_abs (coefficient e' c) ≤ 1 = te'.trits c (pos 0) (omega (arith, te'.length)) in
    let both : unsigned_abs (product_at e r c -ℤ product_at d s c) ≤ 2048 = abs-sub (product_at e r c) (product_at d s c) 1024 1024 first
    second in
    abs-add (product_at e r c -ℤ product_at d s c) (coefficient e' c) 2048 1 both third

-- a bit of what was sealed with any coins
bit_opened : (coins a m : List ℕ) (s e : List ℤ) (c : ℕ) → length a ≡ 1024 → IsTernary s → IsTernary e → c < 256
    → let b = sum_of (product_of a s) (map residue e) in
    opened_bit (v_of coins b m) (product_of (u_of coins a) s) c ≡ message_bit m c
unfolding v_of u_of
bit_opened coins a m s e c long ts te h =
    let b = sum_of (product_of a s) (map residue e) in
    let r = ternary coins 0 in
    let d = ternary coins 64 in
    let e' = ternary coins 128 in
    let tr = ternary_is_ternary coins 0 in
    let td = ternary_is_ternary coins 64 in
    let te' = ternary_is_ternary coins 128 in
    let below : c < 1024 = omega arith in
    let hidden : residue (pos (slice_index (product_of b r) c) -ℤ pos (slice_index (product_of (u_of coins a) s) c)) ≡ residue
    (product_at e r c -ℤ product_at d s c)
    = mask_cancels a s r e d c long ts.length tr.length te.length td.length below in
    let small = noise_small e r d s e' c te tr td ts te' below in
    let at : slice_index (v_of coins b m) c ≡ residue (pos (slice_index (product_of b r) c) +ℤ coefficient e' c +ℤ pos
    (6144 * message_bit m c)) = get_or-carried (product_of b r) e' m c h in
    rw at (bit_read (slice_index (product_of b r) c) (slice_index (product_of (u_of coins a) s) c) (message_bit m c) (coefficient e' c)
    (product_at e r c -ℤ product_at d s c) hidden small (bit_at-lt (slice_index m (c / 8)) (c % 8)))

byte_from_bits : (m v us : List ℕ) → IsMessage m → ((c : ℕ) → c < 256 → opened_bit v us c ≡ message_bit m c) → (j : ℕ) → j < 32
    → number_of_bits (λ i. opened_bit v us (8 * j + i)) 8 ≡ get_or m j 0
byte_from_bits m v us is bits j below =
    let each : (i : ℕ) → i < 8 → opened_bit v us (8 * j + i) ≡ bit_at (get_or m j 0) i = λ i small.
    let here : opened_bit v us (8 * j + i) ≡ message_bit m (8 * j + i) = bits (8 * j + i) (omega arith) in
    let byte : (8 * j + i) / 8 ≡ j = omega arith in
    let place : (8 * j + i) % 8 ≡ i = omega arith in
    rw (byte, place) at here in
    let small : get_or m j 0 < 256 = is.bytes j in
    bits-same (λ i. opened_bit v us (8 * j + i)) (λ i. bit_at (get_or m j 0) i) 8 each
    ∙ bits-of (get_or m j 0) 8
    ∙ mod-eq_of_lt small

-- a message from its bits
message_from_bits : (m v us : List ℕ) → IsMessage m → ((c : ℕ) → c < 256 → opened_bit v us c ≡ message_bit m c) → message_of v us ≡ m
unfolding message_of
message_from_bits m v us is bits =
    sym (fill_by_all (λ j. number_of_bits (λ i. opened_bit v us (8 * j + i)) 8) m 32 0 is.length
    (λ j below. sym (byte_from_bits m v us is bits j below)))

-- what is sealed under the key of a seed is read there
pub sealed_is_decoded : SealedIsDecoded
unfolding decoded capsule_of
sealed_is_decoded seed m is =
    let key = key_of_seed seed in
    let rho = hash_of RingPublic (seed ∷ []) in
    let coins = hash_of RingCoins (key ∷ m ∷ []) in
    let a = uniform rho in
    let b = masked_secret seed in
    let s = secret_of seed in
    let read = packed_is_read_back 256 b (length-sum_of (product_of a s) (map residue (error_of seed)))
    (sum_of-reduced (product_of a s) (map residue (error_of seed))) in
    let front : take 32 key ≡ rho = key_front seed in
    let back : unpacked (drop 32 key) ≡ b = rw (key_back seed) (read_gives (packed b) b read.1).0 in
    let parts = sealed_parts coins a b m in
    let u = read_gives (take 1792 (sealed_with coins a b m)) (u_of coins a) parts.first in
    let v = read_gives (drop 1792 (sealed_with coins a b m)) (v_of coins b m) parts.second in
    rw (front, back, u.0, v.0) (message_from_bits m (v_of coins b m) (product_of (u_of coins a) s) is (λ c h.
    bit_opened coins a m s (error_of seed) c (length-uniform rho) (ternary_is_ternary (hash_of RingSecret (seed ∷ [])) 0)
    (ternary_is_ternary (hash_of RingSecret (seed ∷ [])) 64) h))

-- a capsule's parts have no coefficient that is too large
pub sealed_reads : (capsule key m : List ℕ) → capsule ≡ capsule_of key m
    → ((x : CoefficientTooLarge) → read_packed (take 1792 capsule) ≡ Err x → ⊥)
    × ((x : CoefficientTooLarge) → read_packed (drop 1792 capsule) ≡ Err x → ⊥)
unfolding capsule_of
sealed_reads capsule key m e =
    let coins = hash_of RingCoins (key ∷ m ∷ []) in
    let parts = sealed_parts coins (uniform (take 32 key)) (unpacked (drop 32 key)) m in
    let first = parts.first in
    let second = parts.second in
    rw e ((λ x refused. cc), (λ x refused. cc))

-- what the code reads is what is decoded
pub reads_decoded : (seed capsule front back u v us m : List ℕ) → front ≡ take 1792 capsule → back ≡ drop 1792 capsule
    → read_packed front ≡ Ok u → read_packed back ≡ Ok v
    → us ≡ product_of u (secret_of seed) → m ≡ message_of v us → m ≡ decoded seed capsule
unfolding decoded
reads_decoded seed capsule front back u v us m is-front is-back first second product message =
    let is-u : unpacked (take 1792 capsule) ≡ u = (read_gives (take 1792 capsule) u (rw is-front at first)).0 in
    let is-v : unpacked (drop 1792 capsule) ≡ v = (read_gives (drop 1792 capsule) v (rw is-back at second)).0 in
    rw (message, product, is-u, is-v) refl

pub length-capsule_of : SealedIsAsLong
unfolding capsule_of
length-capsule_of key m = (sealed_parts (hash_of RingCoins (key ∷ m ∷ [])) (uniform (take 32 key)) (unpacked (drop 32 key)) m).length
