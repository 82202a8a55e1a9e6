-- Public keys as bytes.
use Rattle.std.proofs.Common.{◌≡◌, ℕ, ◌+◌, ◌≤◌, List, ◌++◌, [], ◌∷◌, length, map, take, drop, arith, refl, sym, ap, ◌∙◌, Option, Some, None, Result, Ok, Err, length-append, append-nil}
use Rattle.std.proofs.lemmas.List.{take_all, drop_all, length-drop, take_at, drop_at}
use Rattle.ring_poly.specs.declared.packing.CoefficientTooLarge.{CoefficientTooLarge}
use Rattle.ring_poly.specs.Packing.{packed, unpacked, read_packed, unless_too_large, first_too_large}
use Rattle.ring_poly.specs.Residue.{residue}
use Rattle.ring_poly.specs.Product.{IsPolynomial, product_of}
use Rattle.ring_poly.proofs.Packings.{packed_is_read_back, all_from_none, none_from_all}
use Rattle.ring_poly.proofs.Products.{length-sum_of}
use Rattle.wire_core.specs.declared.tag.Tag.TheVariants.{RingPublic}
use Rattle.wire_core.specs.Hash.{hash_of}
use Rattle.wire_core.proofs.ByteLists.{hash_bytes}
use Rattle.ring_encrypt.specs.Draws.{uniform}
use Rattle.ring_encrypt.specs.Capsule.{key_of_seed, secret_of, error_of, masked_secret}
use Rattle.ring_encrypt.specs.Opening.{KeyIsPublicKey}
use Rattle.ring_encrypt.specs.PublicKey.{IsPublicKey}
use Rattle.ring_encrypt.proofs.OpeningLemmas.{read_gives, sum_of-reduced}

-- the rest of the bytes, as the code takes it
back_of : (bytes : List ℕ) (n : ℕ) → length bytes ≤ n + 32 → take n (drop 32 bytes) ≡ drop 32 bytes
back_of bytes n long = take_all n (drop 32 bytes) (omega (arith, length-drop 32 bytes))

-- what the code reads of a key's polynomial
pub key_reads : (bytes : List ℕ) (n : ℕ) (r : Result (List ℕ) CoefficientTooLarge) → IsPublicKey bytes
    → r ≡ read_packed (take n (drop 32 bytes)) → length bytes ≤ n + 32 → r ≡ Ok (unpacked (drop 32 bytes))
key_reads bytes n r key e room =
    let none : first_too_large 0 (unpacked (drop 32 bytes)) ≡ None = none_from_all (unpacked (drop 32 bytes)) key.reduced in
    let whole : take n (drop 32 bytes) ≡ drop 32 bytes = back_of bytes n room in
    let read : read_packed (drop 32 bytes) ≡ Ok (unpacked (drop 32 bytes)) = rw none refl in
    e ∙ ap read_packed whole ∙ read

refused : (cs : List ℕ) (o : Option CoefficientTooLarge) (x : CoefficientTooLarge) → unless_too_large cs o ≡ Err x → o ≡ Some x
refused cs None x e = cc
refused cs (Some y) x e = cc

-- bytes whose polynomial is refused, and bytes that are a key
pub key_refused : (bytes : List ℕ) (n : ℕ) (r : Result (List ℕ) CoefficientTooLarge) (x : CoefficientTooLarge) → length bytes ≡ 1824
    → length bytes ≤ n + 32 → r ≡ read_packed (take n (drop 32 bytes))
    → r ≡ Err x → first_too_large 0 (unpacked (drop 32 bytes)) ≡ Some x
key_refused bytes n r x long room e is =
    let whole : take n (drop 32 bytes) ≡ drop 32 bytes = back_of bytes n (omega arith) in
    refused (unpacked (drop 32 bytes)) (first_too_large 0 (unpacked (drop 32 bytes))) x (sym (ap read_packed whole) ∙ sym e ∙ is)

-- bytes with a coefficient that is too large are no key
pub refused_is_no_key : (bytes : List ℕ) (x : CoefficientTooLarge) → first_too_large 0 (unpacked (drop 32 bytes)) ≡ Some x
    → IsPublicKey bytes → ⊥
refused_is_no_key bytes x large key =
    let none : first_too_large 0 (unpacked (drop 32 bytes)) ≡ None = none_from_all (unpacked (drop 32 bytes)) key.reduced in
    cc

pub key_read : (bytes : List ℕ) (n : ℕ) (r : Result (List ℕ) CoefficientTooLarge) (f : List ℕ) → length bytes ≡ 1824 → length bytes ≤ n + 32
    → r ≡ read_packed (take n (drop 32 bytes)) → r ≡ Ok f → IsPublicKey bytes
key_read bytes n r f long room e is =
    let whole : take n (drop 32 bytes) ≡ drop 32 bytes = back_of bytes n (omega arith) in
    record {
      length = long;
      reduced = all_from_none (unpacked (drop 32 bytes))
          (read_gives (drop 32 bytes) f (sym (ap read_packed whole) ∙ sym e ∙ is)).1;
    }

-- a key that is put together
pub key_of_parts : (rho b : List ℕ) → length rho ≡ 32 → IsPolynomial b → IsPublicKey (rho ++ packed b)
key_of_parts rho b long polynomial =
    let p = packed_is_read_back 256 b polynomial.length polynomial.reduced in
    let back : drop 32 (rho ++ packed b) ≡ packed b = drop_at rho (packed b) 32 long in
    record {
      length = omega (arith, length-append rho (packed b), p.0);
      reduced = rw back (all_from_none (unpacked (packed b)) (read_gives (packed b) b p.1).1);
    }

pub key_is_public_key : KeyIsPublicKey
unfolding key_of_seed
key_is_public_key seed =
    let product = product_of (uniform (hash_of RingPublic (seed ∷ []))) (secret_of seed) in
    let error = map residue (error_of seed) in
    key_of_parts (hash_of RingPublic (seed ∷ [])) (masked_secret seed) (hash_bytes RingPublic (seed ∷ [])).0
    (record { length = length-sum_of product error; reduced = sum_of-reduced product error })

-- ---- two byte strings that are written one after the other
pub joined : (front back bytes : List ℕ) (k : ℕ) → length front + length back ≡ length bytes → length bytes ≤ length front + k
    → take (length front) (front ++ drop (length front) bytes) ++
    (back ++ drop k (drop (length front) (front ++ drop (length front) bytes))) ≡ front ++ back
joined front back bytes k sum room =
    let first : take (length front) (front ++ drop (length front) bytes) ≡ front = take_at front (drop (length front) bytes) (length front)
    refl in
    let second : drop (length front) (front ++ drop (length front) bytes) ≡ drop (length front) bytes = drop_at front
    (drop (length front) bytes) (length front) refl in
    let third : drop k (drop (length front) bytes) ≡ [] = drop_all k (drop (length front) bytes)
    (omega (arith, length-drop (length front) bytes)) in
    rw (first, second, third, append-nil) refl
