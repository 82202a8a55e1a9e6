-- Parts of files of which some bytes are overwritten.
use Rattle.std.proofs.Common.{◌≡◌, ℕ, ◌+◌, ◌≤◌, ◌⊎◌, List, [], ◌∷◌, ◌++◌, length, take, drop, slice_index, refl, sym, ap, ◌∙◌, arith, append_assoc, inl, inr}
use Rattle.std.proofs.lemmas.List.{drop_at, drop-drop, drop-take, get_or-drop, get_or-take, length-take-le, take-append-le}
use Rattle.crash_disk.specs.Disk.{overwritten}
use Rattle.key_store.specs.KeyFiles.{part}
use Rattle.crash_disk.proofs.Overwrites.{drop-after, take-before}

-- n bytes from k on have none of the bytes from `at` on
abbrev pub IsApart : (k n at size : ℕ) → Type 0
IsApart k n at size = (k + n ≤ at) ⊎ (at + size ≤ k)

pub apart_within : (k n at size j m : ℕ) → IsApart k n at size → k ≤ j → j + m ≤ k + n → IsApart j m at size
apart_within k n at size j m (inl before) low high = inl (omega arith)
apart_within k n at size j m (inr after) low high = inr (omega arith)

-- what stands elsewhere
pub part-apart : (file : List ℕ) (at : ℕ) (bytes : List ℕ) (k n : ℕ) → at ≤ length file → IsApart k n at (length bytes)
    → part (overwritten file at bytes) k n ≡ part file k n
unfolding part
part-apart file at bytes k n within (inl before) =
    sym (drop-take k n (overwritten file at bytes))
    ∙ ap (drop k) (take-before file at bytes (k + n) before within)
    ∙ drop-take k n file
part-apart file at bytes k n within (inr after) = ap (take n) (drop-after file at bytes k after within)

-- what stands in the bytes
pub part-inside : (file : List ℕ) (at : ℕ) (bytes : List ℕ) (k j n : ℕ) → at ≤ length file → k ≡ at + j
    → j + n ≤ length bytes → part (overwritten file at bytes) k n ≡ part bytes j n
unfolding part overwritten
part-inside file at bytes k j n within place inside =
    let rest : List ℕ = drop (at + length bytes) file in
    let behind : drop at (take at file ++ bytes ++ rest) ≡ bytes ++ rest =
    ap (drop at) (append_assoc (take at file) bytes rest) ∙ drop_at (take at file) (bytes ++ rest) at (length-take-le at file within) in
    ap (λ (m : ℕ). take n (drop m (take at file ++ bytes ++ rest))) place
    ∙ ap (take n) (sym (drop-drop j at (take at file ++ bytes ++ rest)))
    ∙ ap (λ (l : List ℕ). take n (drop j l)) behind
    ∙ sym (drop-take j n (bytes ++ rest))
    ∙ ap (drop j) (take-append-le (j + n) bytes rest inside)
    ∙ drop-take j n bytes

-- a byte is a part
pub byte-by_part : (file : List ℕ) (k : ℕ) → slice_index file k ≡ slice_index (part file k 1) 0
unfolding part
byte-by_part file k =
    let e : k + 0 ≡ k = omega arith in
    sym (get_or-take 1 (drop k file) 0 0 (omega arith) ∙ get_or-drop k file 0 0 ∙ ap (λ (m : ℕ). slice_index file m) e)

pub byte-apart : (file : List ℕ) (at : ℕ) (bytes : List ℕ) (k : ℕ) → at ≤ length file → IsApart k 1 at (length bytes)
    → slice_index (overwritten file at bytes) k ≡ slice_index file k
byte-apart file at bytes k within apart =
    byte-by_part (overwritten file at bytes) k
    ∙ ap (λ (l : List ℕ). slice_index l 0) (part-apart file at bytes k 1 within apart)
    ∙ sym (byte-by_part file k)

only_byte : (b : ℕ) → slice_index (part (b ∷ []) 0 1) 0 ≡ b
unfolding part
only_byte b = refl

-- a byte that is written
pub byte-written : (file : List ℕ) (at b : ℕ) → at ≤ length file → slice_index (overwritten file at (b ∷ [])) at ≡ b
byte-written file at b within =
    let place : at ≡ at + 0 = omega arith in
    byte-by_part (overwritten file at (b ∷ [])) at
    ∙ ap (λ (l : List ℕ). slice_index l 0) (part-inside file at (b ∷ []) at 0 1 within place (omega arith))
    ∙ only_byte b
