-- Strings of 55 bytes: each is one block with its padding.
use Rattle.std.proofs.Common.{◌≡◌, ℕ, List, [], ◌∷◌, ◌++◌, length, take, drop, refl, ap, ◌∙◌, arith, length-append, length-drop}
use Rattle.std.proofs.lemmas.List.{take_all, take_at, drop_all, append-nil}
use borrow.Rule.Slice.PartMut.{put_mid, post_of}
use Rattle.sha2.specs.Sha256.{compress, digest_bytes, hash_after, initial_hash_256, padded_message, sha256}

-- nine bytes put behind the 55 of a string, over what stood there
pub overwritten_tail : (front s rest tail new : List ℕ) → front ≡ s → length s ≡ 55 → length rest ≡ 9 → new ≡ tail
    → put_mid 55 9 (front ++ rest) new ≡ s ++ tail
overwritten_tail front s rest tail new same long short e =
    let whole : List ℕ = s ++ rest in
    let start : take 55 whole ≡ s = take_at s rest 55 (omega arith) in
    let nothing : post_of 55 9 whole ≡ [] = drop_all 9 (drop 55 whole) (omega (arith, length-drop 55 whole, length-append s rest)) in
    rw (same, start, nothing, append-nil, e) refl

pub padded_55 : (s : List ℕ) → length s ≡ 55 → padded_message s ≡ s ++ 0x80 ∷ 0 ∷ 0 ∷ 0 ∷ 0 ∷ 0 ∷ 0 ∷ 0x01 ∷ 0xb8 ∷ []
padded_55 s e = rw e refl

-- the digest of a string of one block
pub sha256_55 : (s : List ℕ) → length s ≡ 55 → sha256 s ≡ digest_bytes (compress initial_hash_256 (padded_message s)) 8
unfolding sha256 hash_after
sha256_55 s e =
    let long : length (padded_message s) ≡ 64 = ap length (padded_55 s e) ∙ length-append s _ ∙ rw e refl in
    rw (long, take_all 64 (padded_message s) (omega arith)) refl
