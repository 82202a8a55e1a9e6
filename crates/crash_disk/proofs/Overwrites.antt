-- Lists of bytes of which some are overwritten.
use Rattle.std.proofs.Common.{◌≡◌, ℕ, ◌+◌, ◌-◌, ◌<◌, ◌≤◌, ◌⊎◌, max, List, ◌++◌, length, take, drop, refl, sym, ap, ◌∙◌, arith, append_assoc, length-append, inl, inr}
use Rattle.std.proofs.lemmas.Bool.{cases_lt}
use Rattle.std.proofs.lemmas.List.{drop_all, drop-drop, drop-take, length-drop, length-take, length-take-le, take_at, take-append-le, take-take}
use Rattle.std.proofs.Math.Seq.{drop-append-add, take-append-add}
use borrow.Rule.Slice.PartMut.{put_mid}
use Rattle.crash_disk.specs.Disk.{IsTorn, overwritten}

-- as a write to a part of a slice leaves it
pub put_mid-overwritten : (file : List ℕ) (at n : ℕ) (bytes : List ℕ) → n ≡ length bytes
    → put_mid at n file bytes ≡ overwritten file at bytes
unfolding overwritten
put_mid-overwritten file at n bytes e =
    ap (λ (k : ℕ). take at file ++ (bytes ++ drop k (drop at file))) e
    ∙ ap (λ (l : List ℕ). take at file ++ (bytes ++ l)) (drop-drop (length bytes) at file)
    ∙ sym (append_assoc (take at file) bytes (drop (at + length bytes) file))

-- the length of what stands before the bytes that were not overwritten
pub front_length : (file : List ℕ) (at : ℕ) (bytes : List ℕ) → at ≤ length file
    → length (take at file ++ bytes) ≡ at + length bytes
front_length file at bytes within =
    length-append (take at file) bytes ∙ ap (λ (n : ℕ). n + length bytes) (length-take-le at file within)

pub length-overwritten : (file : List ℕ) (at : ℕ) (bytes : List ℕ) → at ≤ length file
    → length (overwritten file at bytes) ≡ max (length file) (at + length bytes)
unfolding overwritten
length-overwritten file at bytes within =
    let front = front_length file at bytes within in
    omega (arith, front, length-append (take at file ++ bytes) (drop (at + length bytes) file), length-drop (at + length bytes) file)

-- bytes behind those that were overwritten, in the front of a file
pub back_taken : (file : List ℕ) (n ends : ℕ) → drop ends (take n file) ≡ take (n - ends) (drop ends file)
back_taken file n ends =
    back (cases_lt n ends)
  where
    back : (n < ends) ⊎ (ends ≤ n) → drop ends (take n file) ≡ take (n - ends) (drop ends file)
    back (inr le) =
        let e : ends + (n - ends) ≡ n = omega arith in
        ap (λ (k : ℕ). drop ends (take k file)) (sym e) ∙ drop-take ends (n - ends) file
    back (inl lt) =
        let e : n - ends ≡ 0 = omega arith in
        drop_all ends (take n file) (omega (arith, length-take n file)) ∙ sym (ap (λ (k : ℕ). take k (drop ends file)) e)

-- the front of a file that was overwritten is the front, overwritten
pub take-overwritten : (file : List ℕ) (at : ℕ) (bytes : List ℕ) (n m : ℕ) → at ≤ n → at ≤ length file
    → m ≡ max n (at + length bytes) → take m (overwritten file at bytes) ≡ overwritten (take n file) at bytes
unfolding overwritten
take-overwritten file at bytes n m below within most =
    let front = front_length file at bytes within in
    let e : m ≡ length (take at file ++ bytes) + (n - (at + length bytes)) = omega (arith, front) in
    let same : take at (take n file) ≡ take at file = take-take at n file below in
    rw (e, same, back_taken file n (at + length bytes))
    (take-append-add (take at file ++ bytes) (drop (at + length bytes) file) (n - (at + length bytes)))

-- bytes at the front of a buffer, of which the whole is told with more behind it
pub first_written : (buffer now rest bytes : List ℕ) (size : ℕ) → now ≡ overwritten buffer 0 bytes → length bytes ≤ size
    → take (length bytes) (take size (now ++ rest)) ≡ bytes
unfolding overwritten
first_written buffer now rest bytes size is small =
    take-take (length bytes) size (now ++ rest) small
    ∙ ap (λ (l : List ℕ). take (length bytes) (l ++ rest)) is
    ∙ ap (λ (l : List ℕ). take (length bytes) l) (append_assoc bytes (drop (0 + length bytes) buffer) rest)
    ∙ take_at bytes (drop (0 + length bytes) buffer ++ rest) (length bytes) refl

-- bytes from `at` on, of which the whole is told with more behind it
pub written_within : (buffer now rest bytes : List ℕ) (at size m all : ℕ) → now ≡ overwritten buffer at bytes
    → length now ≡ all → at ≤ size → at ≤ length buffer → m ≡ max size (at + length bytes)
    → take m (take all (now ++ rest)) ≡ overwritten (take size buffer) at bytes
written_within buffer now rest bytes at size m all is whole below within most =
    ap (λ (l : List ℕ). take m l) (take_at now rest all whole ∙ is)
    ∙ take-overwritten buffer at bytes size m below within most

-- the front before the bytes
pub take-before : (file : List ℕ) (at : ℕ) (bytes : List ℕ) (n : ℕ) → n ≤ at → at ≤ length file
    → take n (overwritten file at bytes) ≡ take n file
unfolding overwritten
take-before file at bytes n before within =
    let front = front_length file at bytes within in
    let size = length-take-le at file within in
    take-append-le n (take at file ++ bytes) (drop (at + length bytes) file) (omega (arith, front))
    ∙ take-append-le n (take at file) bytes (omega (arith, size))
    ∙ take-take n at file before

-- the back behind the bytes
pub drop-after : (file : List ℕ) (at : ℕ) (bytes : List ℕ) (k : ℕ) → at + length bytes ≤ k → at ≤ length file
    → drop k (overwritten file at bytes) ≡ drop k file
unfolding overwritten
drop-after file at bytes k after within =
    let front = front_length file at bytes within in
    let e : k ≡ length (take at file ++ bytes) + (k - (at + length bytes)) = omega (arith, front) in
    let back : at + length bytes + (k - (at + length bytes)) ≡ k = omega arith in
    ap (λ (m : ℕ). drop m (take at file ++ bytes ++ drop (at + length bytes) file)) e
    ∙ drop-append-add (take at file ++ bytes) (drop (at + length bytes) file) (k - (at + length bytes))
    ∙ drop-drop (k - (at + length bytes)) (at + length bytes) file
    ∙ ap (λ (m : ℕ). drop m file) back

-- what is written as a whole is written as far as it goes
pub overwritten_torn : (file : List ℕ) (at : ℕ) (bytes : List ℕ) → at ≤ length file
    → IsTorn file at (length bytes) (overwritten file at bytes)
overwritten_torn file at bytes within =
    let size = length-overwritten file at bytes within in
    record {
      before = take-before file at bytes at (omega arith) within;
      after = drop-after file at bytes (at + length bytes) (omega arith) within;
      no_shorter = omega (arith, size);
      no_longer = omega (arith, size);
    }
