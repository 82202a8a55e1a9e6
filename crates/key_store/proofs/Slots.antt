-- Slots, and what a file says once a slot is written.
use Rattle.std.proofs.Common.{◌≡◌, ℕ, ◌+◌, ◌<◌, ◌≤◌, ◌^◌, List, [], ◌∷◌, length, slice_index, refl, sym, ap, ◌∙◌, arith, inl, inr}
use Rattle.std.specs.Int.{w32, w64, to_be_bytes, from_be_bytes}
use Rattle.std.proofs.lemmas.Nat.{from_be_bytes-to_be_bytes_4, from_be_bytes-to_be_bytes_8}
use Rattle.crash_disk.specs.Disk.{overwritten}
use Rattle.key_store.specs.KeyFiles.{closed, long_at, numbers, opened, part, raised, slot_at, word_at, written}
use Rattle.crash_disk.proofs.Overwrites.{length-overwritten}
use Rattle.key_store.proofs.Parts.{IsApart, apart_within, byte-apart, byte-by_part, byte-written, part-apart, part-inside}

pub word-apart : (file : List ℕ) (at : ℕ) (bytes : List ℕ) (k : ℕ) → at ≤ length file → IsApart k 4 at (length bytes)
    → word_at (overwritten file at bytes) k ≡ word_at file k
unfolding word_at
word-apart file at bytes k within apart = ap (from_be_bytes w32) (part-apart file at bytes k 4 within apart)

pub long-apart : (file : List ℕ) (at : ℕ) (bytes : List ℕ) (k : ℕ) → at ≤ length file → IsApart k 8 at (length bytes)
    → long_at (overwritten file at bytes) k ≡ long_at file k
unfolding long_at
long-apart file at bytes k within apart = ap (from_be_bytes w64) (part-apart file at bytes k 8 within apart)

-- the numbers of a slot, as they are written
size_of_numbers : (round next : ℕ) → length (numbers round next) ≡ 12
size_of_numbers round next = refl

first_number : (round next : ℕ) → part (numbers round next) 0 8 ≡ to_be_bytes w64 round
unfolding part
first_number round next = refl

second_number : (round next : ℕ) → part (numbers round next) 8 4 ≡ to_be_bytes w32 next
unfolding part
second_number round next = refl

pub long-written : (file : List ℕ) (at round next : ℕ) → at + 1 ≤ length file → round < 2 ^ 64
    → long_at (written file at round next) (at + 1) ≡ round
unfolding long_at
long-written file at round next within small =
    let place : at + 1 ≡ at + 1 + 0 = omega arith in
    ap (from_be_bytes w64)
    (part-inside file (at + 1) (numbers round next) (at + 1) 0 8 within place (omega (arith, size_of_numbers round next))
    ∙ first_number round next)
    ∙ from_be_bytes-to_be_bytes_8 round small

pub word-written : (file : List ℕ) (at round next : ℕ) → at + 1 ≤ length file → next < 2 ^ 32
    → word_at (written file at round next) (at + 9) ≡ next
unfolding word_at
word-written file at round next within small =
    let place : at + 9 ≡ at + 1 + 8 = omega arith in
    ap (from_be_bytes w32)
    (part-inside file (at + 1) (numbers round next) (at + 9) 8 4 within place (omega (arith, size_of_numbers round next))
    ∙ second_number round next)
    ∙ from_be_bytes-to_be_bytes_4 next small

-- one slot, from its parts
pub slot_by_parts : (file : List ℕ) (at gate round next : ℕ) → slice_index file at ≡ gate → long_at file (at + 1) ≡ round
    → word_at file (at + 9) ≡ next → slot_at file at ≡ record { gate = gate; round = round; next = next }
unfolding slot_at
slot_by_parts file at gate round next g r n = rw (g, r, n) refl

pub slot-apart : (file : List ℕ) (at : ℕ) (bytes : List ℕ) (k : ℕ) → at ≤ length file → IsApart k 13 at (length bytes)
    → slot_at (overwritten file at bytes) k ≡ slot_at file k
unfolding slot_at
slot-apart file at bytes k within apart =
    slot_by_parts (overwritten file at bytes) k _ _ _
    (byte-apart file at bytes k within (apart_within k 13 at (length bytes) k 1 apart (omega arith) (omega arith)))
    (long-apart file at bytes (k + 1) within (apart_within k 13 at (length bytes) (k + 1) 8 apart (omega arith) (omega arith)))
    (word-apart file at bytes (k + 9) within (apart_within k 13 at (length bytes) (k + 9) 4 apart (omega arith) (omega arith)))

-- the lengths on the way
closed_length : (file : List ℕ) (at b : ℕ) → at < length file → length (overwritten file at (b ∷ [])) ≡ length file
closed_length file at b within =
    let whole = length-overwritten file at (b ∷ []) (omega arith) in omega (arith, whole)

written_length : (file : List ℕ) (at round next : ℕ) → at + 13 ≤ length file → length (written file at round next) ≡ length file
written_length file at round next within =
    let whole = length-overwritten file (at + 1) (numbers round next) (omega arith) in
    omega (arith, whole, size_of_numbers round next)

pub length-raised : (file : List ℕ) (at round next : ℕ) → at + 13 ≤ length file → length (raised file at round next) ≡ length file
unfolding raised
length-raised file at round next within =
    let first = closed_length file at 0 (omega arith) in
    let second = written_length (closed file at) at round next (omega (arith, first)) in
    let third = closed_length (written (closed file at) at round next) at 1 (omega (arith, first, second)) in
    third ∙ second ∙ first

-- the slot that is raised
pub slot-raised : (file : List ℕ) (at round next : ℕ) → at + 13 ≤ length file → round < 2 ^ 64 → next < 2 ^ 32
    → slot_at (raised file at round next) at ≡ record { gate = 1; round = round; next = next }
unfolding raised
slot-raised file at round next within small_round small_next =
    let first = closed_length file at 0 (omega arith) in
    let second = written_length (closed file at) at round next (omega (arith, first)) in
    let before : at ≤ length (written (closed file at) at round next) = omega (arith, first, second) in
    slot_by_parts (opened (written (closed file at) at round next) at) at 1 round next
    (byte-written (written (closed file at) at round next) at 1 before)
    (long-apart (written (closed file at) at round next) at (1 ∷ []) (at + 1) before (inr (omega arith))
    ∙ long-written (closed file at) at round next (omega (arith, first)) small_round)
    (word-apart (written (closed file at) at round next) at (1 ∷ []) (at + 9) before (inr (omega arith))
    ∙ word-written (closed file at) at round next (omega (arith, first)) small_next)

-- what stands elsewhere in a file of which a slot is raised
pub raised-apart : (file : List ℕ) (at round next k n : ℕ) → at + 13 ≤ length file → IsApart k n at 13
    → part (raised file at round next) k n ≡ part file k n
unfolding raised
raised-apart file at round next k n within apart =
    let first = closed_length file at 0 (omega arith) in
    let second = written_length (closed file at) at round next (omega (arith, first)) in
    part-apart (written (closed file at) at round next) at (1 ∷ []) k n (omega (arith, first, second))
    (shorter k n at at 1 apart (omega arith) (omega arith))
    ∙ part-apart (closed file at) (at + 1) (numbers round next) k n (omega (arith, first))
    (shorter k n at (at + 1) 12 apart (omega arith) (omega arith))
    ∙ part-apart file at (0 ∷ []) k n (omega arith) (shorter k n at at 1 apart (omega arith) (omega arith))
  where
    shorter : (k n at start size : ℕ) → IsApart k n at 13 → at ≤ start → start + size ≤ at + 13 → IsApart k n start size
    shorter k n at start size (inl before) low high = inl (omega arith)
    shorter k n at start size (inr after) low high = inr (omega arith)

-- bytes, words and slots of two files with the same parts
pub same_byte : (f g : List ℕ) (k : ℕ) → part f k 1 ≡ part g k 1 → slice_index f k ≡ slice_index g k
same_byte f g k e = byte-by_part f k ∙ ap (λ (l : List ℕ). slice_index l 0) e ∙ sym (byte-by_part g k)

pub same_word : (f g : List ℕ) (k : ℕ) → part f k 4 ≡ part g k 4 → word_at f k ≡ word_at g k
unfolding word_at
same_word f g k e = ap (from_be_bytes w32) e

pub same_long : (f g : List ℕ) (k : ℕ) → part f k 8 ≡ part g k 8 → long_at f k ≡ long_at g k
unfolding long_at
same_long f g k e = ap (from_be_bytes w64) e

pub same_slot : (f g : List ℕ) (k : ℕ) → part f k 1 ≡ part g k 1 → part f (k + 1) 8 ≡ part g (k + 1) 8
    → part f (k + 9) 4 ≡ part g (k + 9) 4 → slot_at f k ≡ slot_at g k
unfolding slot_at
same_slot f g k gate round next =
    slot_by_parts f k _ _ _ (same_byte f g k gate) (same_long f g (k + 1) round) (same_word f g (k + 9) next)

-- the other slot
pub slot-beside : (file : List ℕ) (at round next k : ℕ) → at + 13 ≤ length file → IsApart k 13 at 13
    → slot_at (raised file at round next) k ≡ slot_at file k
slot-beside file at round next k within apart =
    same_slot (raised file at round next) file k
    (raised-apart file at round next k 1 within (apart_within k 13 at 13 k 1 apart (omega arith) (omega arith)))
    (raised-apart file at round next (k + 1) 8 within (apart_within k 13 at 13 (k + 1) 8 apart (omega arith) (omega arith)))
    (raised-apart file at round next (k + 9) 4 within (apart_within k 13 at 13 (k + 9) 4 apart (omega arith) (omega arith)))
