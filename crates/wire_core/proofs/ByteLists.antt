-- Lists of bytes: joined ones, a number's bytes, and a hash.
use Rattle.std.proofs.Common.{◌≡◌, ℕ, zero, suc, ◌/◌, ◌%◌, ◌<◌, ◌^◌, List, [], ◌∷◌, ◌++◌, length, take, drop, sym, subst, arith, get_or}
use Rattle.std.specs.Int.{Width, w32, byte_len, byte_at, bytes_high_first, to_be_bytes}
use Rattle.std.proofs.lemmas.List.{take-append-drop}
use Rattle.sha2.specs.Sha256.{sha256, digest_bytes}
use Rattle.sha2.proofs.Facts256.{length-sha256}
use Rattle.wire_core.specs.declared.tag.Tag.{Tag}
use Rattle.wire_core.specs.Bytes.{IsBytes}
use Rattle.wire_core.specs.Hash.{hash_of, hashed}

pub IsBytes-nil : IsBytes []
IsBytes-nil i = omega arith

pub IsBytes-cons : (b : ℕ) (bytes : List ℕ) → b < 256 → IsBytes bytes → IsBytes (b ∷ bytes)
IsBytes-cons b bytes small rest zero = small
IsBytes-cons b bytes small rest (suc i) = rest i

pub IsBytes-append : (xs ys : List ℕ) → IsBytes xs → IsBytes ys → IsBytes (xs ++ ys)
IsBytes-append [] ys p q = q
IsBytes-append (x ∷ xs) ys p q = IsBytes-cons x (xs ++ ys) (p 0) (IsBytes-append xs ys (λ i. p (suc i)) q)

-- the parts of bytes are bytes
pub IsBytes-front : (xs ys : List ℕ) → IsBytes (xs ++ ys) → IsBytes xs
IsBytes-front [] ys h i = omega arith
IsBytes-front (x ∷ xs) ys h zero = h 0
IsBytes-front (x ∷ xs) ys h (suc i) = IsBytes-front xs ys (λ k. h (suc k)) i

pub IsBytes-back : (xs ys : List ℕ) → IsBytes (xs ++ ys) → IsBytes ys
IsBytes-back [] ys h = h
IsBytes-back (x ∷ xs) ys h = IsBytes-back xs ys (λ k. h (suc k))

pub IsBytes-take : (n : ℕ) (bytes : List ℕ) → IsBytes bytes → IsBytes (take n bytes)
IsBytes-take n bytes h =
    IsBytes-front (take n bytes) (drop n bytes) (subst (λ (x : List ℕ). IsBytes x) (sym (take-append-drop n bytes)) h)

byte_at-small : (k n : ℕ) → byte_at k n < 256
byte_at-small zero n = omega arith
byte_at-small (suc k) n = let high : ℕ = n / 256 ^ suc k in let small : high % 256 < 256 = omega arith in small

high_first-bytes : (k n : ℕ) → IsBytes (bytes_high_first k n)
high_first-bytes zero n = IsBytes-nil
high_first-bytes (suc k) n = IsBytes-cons (byte_at k n) (bytes_high_first k n) (byte_at-small k n) (high_first-bytes k n)

-- the bytes of a number are bytes
pub IsBytes-to_be_bytes : (w : Width) (n : ℕ) → IsBytes (to_be_bytes w n)
IsBytes-to_be_bytes w n = high_first-bytes (byte_len w) n

digest-bytes : (h : List ℕ) (n : ℕ) → IsBytes (digest_bytes h n)
unfolding digest_bytes
digest-bytes h zero = IsBytes-nil
digest-bytes h (suc n) =
    IsBytes-append (digest_bytes h n) (to_be_bytes w32 (get_or h n 0)) (digest-bytes h n) (IsBytes-to_be_bytes w32 (get_or h n 0))

-- a SHA-256 digest is bytes
pub IsBytes-sha256 : (m : List ℕ) → IsBytes (sha256 m)
unfolding sha256
IsBytes-sha256 m = digest-bytes _ 8

-- a hash is 32 bytes
pub hash_bytes : (tag : Tag) (pieces : List (List ℕ)) → (length (hash_of tag pieces) ≡ 32) × IsBytes (hash_of tag pieces)
unfolding hash_of
hash_bytes tag pieces = (length-sha256 (hashed tag pieces), IsBytes-sha256 (hashed tag pieces))
