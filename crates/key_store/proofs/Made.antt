-- A file as it is made is read as what it was made of.
use Rattle.std.proofs.Common.{◌≡◌, ℕ, ◌+◌, ◌-◌, ◌<◌, ◌≤◌, ◌^◌, true, List, [], ◌∷◌, Option, Some, None, Ok, IfSome, length, take, drop, slice_index, refl, sym, ap, ◌∙◌, arith, inl}
use Rattle.std.specs.Prelude.{◌||◌, replicate}
use Rattle.std.specs.Int.{w32, to_be_bytes, from_be_bytes}
use Rattle.std.proofs.lemmas.List.{drop-drop, take_all}
use Rattle.std.proofs.lemmas.Nat.{from_be_bytes-to_be_bytes_4}
use Rattle.lm_ots.specs.declared.types.OtsType.{OtsType}
use Rattle.lm_ots.specs.declared.types.OtsType.TheVariants.{W1, W2, W4, W8}
use Rattle.lm_ots.specs.OneTime.{type_number}
use Rattle.lms_tree.specs.declared.secrets.MadeHeight.{MadeHeight}
use Rattle.lms_tree.specs.declared.secrets.MadeHeight.TheVariants.{H5, H10}
use Rattle.lms_tree.specs.Tree.{tree_number}
use Rattle.lms_tree.specs.States.{made_leaves, made_type}
use Rattle.key_store.specs.declared.layout.Slot.{Slot}
use Rattle.key_store.specs.declared.layout.KeyContent.{KeyContent}
use Rattle.crash_disk.specs.Disk.{overwritten}
use Rattle.key_store.specs.KeyFiles.{Mirrors, content_of, counted, fields_written, greatest, head_of, head_read, is_valid, key_read, long_at, made, magic, opened, part, parts_in, slot_at, stands, word_at}
use Rattle.key_store.specs.Crashes.{Keeps}
use Rattle.crash_disk.proofs.Overwrites.{drop-after, length-overwritten}
use Rattle.key_store.proofs.Parts.{byte-by_part, byte-written, part-apart, part-inside}
use Rattle.key_store.proofs.Slots.{same_long, same_slot, same_word, slot_by_parts}
use Rattle.key_store.proofs.Raised.{counted-open, read_raised, valid-open}

-- one field of several
size_after : (file : List ℕ) (at : ℕ) (bytes : List ℕ) (n : ℕ) → length file ≡ 128 → length bytes ≡ n → at + n ≤ 128
    → length (overwritten file at bytes) ≡ 128
size_after file at bytes n whole size within = omega (arith, length-overwritten file at bytes (omega arith))

before : (file : List ℕ) (at : ℕ) (bytes : List ℕ) (k n : ℕ) → length file ≡ 128 → at ≤ 128 → k + n ≤ at
    → part (overwritten file at bytes) k n ≡ part file k n
before file at bytes k n whole within low = part-apart file at bytes k n (omega arith) (inl low)

whole_part : (bytes : List ℕ) (n : ℕ) → length bytes ≡ n → part bytes 0 n ≡ bytes
unfolding part
whole_part bytes n size = take_all n bytes (omega arith)

own : (file : List ℕ) (at : ℕ) (bytes : List ℕ) (n : ℕ) → length file ≡ 128 → at ≤ 128 → length bytes ≡ n
    → part (overwritten file at bytes) at n ≡ bytes
own file at bytes n whole within size =
    part-inside file at bytes at 0 n (omega arith) (omega arith) (omega arith) ∙ whole_part bytes n size

after : (file : List ℕ) (at : ℕ) (bytes : List ℕ) (n k : ℕ) → length file ≡ 128 → at ≤ 128 → length bytes ≡ n → at + n ≤ k
    → drop k (overwritten file at bytes) ≡ drop k file
after file at bytes n k whole within size high = drop-after file at bytes k (omega arith) (omega arith)

-- six fields, each behind the last
abbrev six : (file b1 b2 b3 b4 b5 b6 : List ℕ) → List ℕ
six file b1 b2 b3 b4 b5 b6 =
    overwritten (overwritten (overwritten (overwritten (overwritten (overwritten file 0 b1) 4 b2) 5 b3) 9 b4) 13 b5) 29 b6

record AreWritten (file b1 b2 b3 b4 b5 b6 now : List ℕ) : Type 0 where
  whole : length now ≡ 128
  p1 : part now 0 4 ≡ b1
  p2 : part now 4 1 ≡ b2
  p3 : part now 5 4 ≡ b3
  p4 : part now 9 4 ≡ b4
  p5 : part now 13 16 ≡ b5
  p6 : part now 29 32 ≡ b6
  back : drop 61 now ≡ drop 61 file

are_written : (file b1 b2 b3 b4 b5 b6 : List ℕ) → length file ≡ 128 → length b1 ≡ 4 → length b2 ≡ 1 → length b3 ≡ 4 → length b4 ≡ 4
    → length b5 ≡ 16 → length b6 ≡ 32 → AreWritten file b1 b2 b3 b4 b5 b6 (six file b1 b2 b3 b4 b5 b6)
are_written file b1 b2 b3 b4 b5 b6 whole s1 s2 s3 s4 s5 s6 =
    let g1 : List ℕ = overwritten file 0 b1 in
    let g2 : List ℕ = overwritten g1 4 b2 in
    let g3 : List ℕ = overwritten g2 5 b3 in
    let g4 : List ℕ = overwritten g3 9 b4 in
    let g5 : List ℕ = overwritten g4 13 b5 in
    let l1 : length g1 ≡ 128 = size_after file 0 b1 4 whole s1 (omega arith) in
    let l2 : length g2 ≡ 128 = size_after g1 4 b2 1 l1 s2 (omega arith) in
    let l3 : length g3 ≡ 128 = size_after g2 5 b3 4 l2 s3 (omega arith) in
    let l4 : length g4 ≡ 128 = size_after g3 9 b4 4 l3 s4 (omega arith) in
    let l5 : length g5 ≡ 128 = size_after g4 13 b5 16 l4 s5 (omega arith) in
    record {
      whole = size_after g5 29 b6 32 l5 s6 (omega arith);
      p1 = before g5 29 b6 0 4 l5 (omega arith) (omega arith) ∙ before g4 13 b5 0 4 l4 (omega arith) (omega arith)
          ∙ before g3 9 b4 0 4 l3 (omega arith) (omega arith) ∙ before g2 5 b3 0 4 l2 (omega arith) (omega arith)
          ∙ before g1 4 b2 0 4 l1 (omega arith) (omega arith) ∙ own file 0 b1 4 whole (omega arith) s1;
      p2 = before g5 29 b6 4 1 l5 (omega arith) (omega arith) ∙ before g4 13 b5 4 1 l4 (omega arith) (omega arith)
          ∙ before g3 9 b4 4 1 l3 (omega arith) (omega arith) ∙ before g2 5 b3 4 1 l2 (omega arith) (omega arith)
          ∙ own g1 4 b2 1 l1 (omega arith) s2;
      p3 = before g5 29 b6 5 4 l5 (omega arith) (omega arith) ∙ before g4 13 b5 5 4 l4 (omega arith) (omega arith)
          ∙ before g3 9 b4 5 4 l3 (omega arith) (omega arith) ∙ own g2 5 b3 4 l2 (omega arith) s3;
      p4 = before g5 29 b6 9 4 l5 (omega arith) (omega arith) ∙ before g4 13 b5 9 4 l4 (omega arith) (omega arith)
          ∙ own g3 9 b4 4 l3 (omega arith) s4;
      p5 = before g5 29 b6 13 16 l5 (omega arith) (omega arith) ∙ own g4 13 b5 16 l4 (omega arith) s5;
      p6 = own g5 29 b6 32 l5 (omega arith) s6;
      back = after g5 29 b6 32 61 l5 (omega arith) s6 (omega arith) ∙ after g4 13 b5 16 61 l4 (omega arith) s5 (omega arith)
          ∙ after g3 9 b4 4 61 l3 (omega arith) s4 (omega arith) ∙ after g2 5 b3 4 61 l2 (omega arith) s3 (omega arith)
          ∙ after g1 4 b2 1 61 l1 (omega arith) s2 (omega arith) ∙ after file 0 b1 4 61 whole (omega arith) s1 (omega arith);
    }

-- the bytes of each field
record AreFields (c : KeyContent) (now : List ℕ) : Type 0 where
  written : AreWritten (replicate 128 0) (to_be_bytes w32 magic) (1 ∷ []) (to_be_bytes w32 (tree_number (made_type c.height)))
      (to_be_bytes w32 (type_number c.width)) c.identifier c.seed now

are_fields : (c : KeyContent) → length c.identifier ≡ 16 → length c.seed ≡ 32 → AreFields c (made (parts_in c))
unfolding made fields_written
are_fields c i s = record { written = are_written (replicate 128 0) _ _ _ _ c.identifier c.seed refl refl refl refl refl i s }

-- the types are found again
tree_small : (h : MadeHeight) → tree_number (made_type h) < 2 ^ 32
tree_small H5 = omega arith
tree_small H10 = omega arith

type_small : (w : OtsType) → type_number w < 2 ^ 32
type_small W1 = omega arith
type_small W2 = omega arith
type_small W4 = omega arith
type_small W8 = omega arith

head_known : (h : MadeHeight) (w : OtsType) → head_of 128 magic 1 (tree_number (made_type h)) (type_number w) ≡ Ok (h, w)
head_known H5 W1 = refl
head_known H5 W2 = refl
head_known H5 W4 = refl
head_known H5 W8 = refl
head_known H10 W1 = refl
head_known H10 W2 = refl
head_known H10 W4 = refl
head_known H10 W8 = refl

word_known : (file : List ℕ) (k n : ℕ) → n < 2 ^ 32 → part file k 4 ≡ to_be_bytes w32 n → word_at file k ≡ n
unfolding word_at
word_known file k n small is = ap (from_be_bytes w32) is ∙ from_be_bytes-to_be_bytes_4 n small

head_made : (c : KeyContent) (now : List ℕ) → length now ≡ 128 → part now 0 4 ≡ to_be_bytes w32 magic → part now 4 1 ≡ 1 ∷ []
    → part now 5 4 ≡ to_be_bytes w32 (tree_number (made_type c.height)) → part now 9 4 ≡ to_be_bytes w32 (type_number c.width)
    → head_read now ≡ Ok (c.height, c.width)
unfolding head_read
head_made c now whole first version lms ots =
    ap (λ (n : ℕ). head_of n (word_at now 0) (slice_index now 4) (word_at now 5) (word_at now 9)) whole
    ∙ ap (λ (n : ℕ). head_of 128 n (slice_index now 4) (word_at now 5) (word_at now 9)) (word_known now 0 magic (omega arith) first)
    ∙ ap (λ (n : ℕ). head_of 128 magic n (word_at now 5) (word_at now 9))
    (byte-by_part now 4 ∙ ap (λ (l : List ℕ). slice_index l 0) version)
    ∙ ap (λ (n : ℕ). head_of 128 magic 1 n (word_at now 9)) (word_known now 5 _ (tree_small c.height) lms)
    ∙ ap (λ (n : ℕ). head_of 128 magic 1 (tree_number (made_type c.height)) n) (word_known now 9 _ (type_small c.width) ots)
    ∙ head_known c.height c.width

-- the first gate open
still : (now : List ℕ) (k n : ℕ) → length now ≡ 128 → k + n ≤ 64 → part (opened now 64) k n ≡ part now k n
still now k n whole low = before now 64 (1 ∷ []) k n whole (omega arith) low

-- behind the fields and the gate nothing was written
behind : (file now : List ℕ) (k n : ℕ) → length now ≡ 128 → drop 61 now ≡ drop 61 file → 65 ≤ k → part (opened now 64) k n ≡ part file k n
unfolding part
behind file now k n whole back high =
    let place : 61 + (k - 61) ≡ k = omega arith in
    ap (take n) (after now 64 (1 ∷ []) 1 k whole (omega arith) refl high
    ∙ ap (λ (m : ℕ). drop m now) (sym place) ∙ sym (drop-drop (k - 61) 61 now) ∙ ap (drop (k - 61)) back
    ∙ drop-drop (k - 61) 61 file ∙ ap (λ (m : ℕ). drop m file) place)

blank_long : (k : ℕ) → long_at (replicate 128 0) 65 ≡ 0
unfolding long_at part
blank_long k = refl

blank_word : (k : ℕ) → word_at (replicate 128 0) 73 ≡ 0
unfolding word_at part
blank_word k = refl

blank_slot : (k : ℕ) → slot_at (replicate 128 0) 96 ≡ record { gate = 0; round = 0; next = 0 }
unfolding slot_at long_at word_at part
blank_slot k = refl

first_slot : (now : List ℕ) → length now ≡ 128 → drop 61 now ≡ drop 61 (replicate 128 0)
    → slot_at (opened now 64) 64 ≡ record { gate = 1; round = 0; next = 0 }
first_slot now whole back =
    slot_by_parts (opened now 64) 64 1 0 0
    (byte-written now 64 1 (omega arith))
    (same_long (opened now 64) (replicate 128 0) 65 (behind (replicate 128 0) now 65 8 whole back (omega arith)) ∙ blank_long 0)
    (same_word (opened now 64) (replicate 128 0) 73 (behind (replicate 128 0) now 73 4 whole back (omega arith)) ∙ blank_word 0)

second_slot : (now : List ℕ) → length now ≡ 128 → drop 61 now ≡ drop 61 (replicate 128 0)
    → slot_at (opened now 64) 96 ≡ record { gate = 0; round = 0; next = 0 }
second_slot now whole back =
    same_slot (opened now 64) (replicate 128 0) 96 (behind (replicate 128 0) now 96 1 whole back (omega arith))
    (behind (replicate 128 0) now 97 8 whole back (omega arith)) (behind (replicate 128 0) now 105 4 whole back (omega arith))
    ∙ blank_slot 0

content_made : (c : KeyContent) (now : List ℕ) → part now 13 16 ≡ c.identifier → part now 29 32 ≡ c.seed
    → stands (made_leaves c.height) now ≡ record { round = 0; next = 0 }
    → content_of (c.height, c.width) now ≡ record c { kept = record { round = 0; next = 0 } }
content_made c now i s k = rw (i, s, k) refl

-- what two such slots stand for
slots_open : (leaves : ℕ) (a b : Slot) → a ≡ record { gate = 1; round = 0; next = 0 } → b ≡ record { gate = 0; round = 0; next = 0 }
    → ((is_valid leaves a || is_valid leaves b) ≡ true) × (greatest (counted leaves a) (counted leaves b) ≡ record { round = 0; next = 0 })
slots_open leaves a b first second =
    (rw (first, valid-open leaves 0 0 (omega arith)) refl, rw (first, second, counted-open leaves 0 0 (omega arith)) refl)

-- a file that is made, and opened, is read as what it was made of
pub made_read : (c : KeyContent) → length c.identifier ≡ 16 → length c.seed ≡ 32
    → key_read (opened (made (parts_in c)) 64) ≡ Ok record c { kept = record { round = 0; next = 0 } }
unfolding stands
made_read c i s =
    let now : List ℕ = made (parts_in c) in
    let w = (are_fields c i s).written in
    let slots = slots_open (made_leaves c.height) (slot_at (opened now 64) 64) (slot_at (opened now 64) 96)
    (first_slot now w.whole w.back) (second_slot now w.whole w.back) in
    read_raised (opened now 64) (c.height, c.width) _
    (head_made c (opened now 64) (size_after now 64 (1 ∷ []) 1 w.whole refl (omega arith))
    (still now 0 4 w.whole (omega arith) ∙ w.p1) (still now 4 1 w.whole (omega arith) ∙ w.p2)
    (still now 5 4 w.whole (omega arith) ∙ w.p3) (still now 9 4 w.whole (omega arith) ∙ w.p4))
    slots.0
    (content_made c (opened now 64) (still now 13 16 w.whole (omega arith) ∙ w.p5) (still now 29 32 w.whole (omega arith) ∙ w.p6) slots.1)

-- it stands for nothing used, and one gate is closed
pub made_keeps : (c : KeyContent) → length c.identifier ≡ 16 → length c.seed ≡ 32
    → Keeps record c { kept = record { round = 0; next = 0 } } (opened (made (parts_in c)) 64)
made_keeps c i s =
    let w = (are_fields c i s).written in
    record {
      stands = record { round = 0; next = 0 };
      read = made_read c i s;
      round = omega arith;
      next = omega arith;
      paired = λ first second. absurd (second (ap (λ (s : Slot). s.gate) (second_slot (made (parts_in c)) w.whole w.back)));
    }

-- as the disk's file is told
pub made_told : (told : Option (List ℕ)) (c : KeyContent) → length c.identifier ≡ 16 → length c.seed ≡ 32
    → Mirrors told (opened (made (parts_in c)) 64)
    → IfSome told (λ file. key_read (take 128 file) ≡ Ok record c { kept = record { round = 0; next = 0 } })
made_told None c i s mirrors = tt
made_told (Some file) c i s mirrors = ap key_read mirrors ∙ made_read c i s
