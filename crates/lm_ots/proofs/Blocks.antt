-- What writes to parts of a block of bytes leave.
use Rattle.std.proofs.Common.{◌≡◌, ℕ, ◌≤◌, List, [], ◌∷◌, ◌++◌, length, take, drop, slice_set, refl, ◌∙◌, ap, arith, append_assoc, length-append}
use Rattle.std.proofs.lemmas.List.{append-nil, drop_all, drop_at, length-drop, length-set, take_at, take_more_set, take-append-drop}
use Rattle.std.proofs.lemmas.Slice.{take-put_mid}
use borrow.Rule.Slice.PartMut.{put_mid, post_of}

-- three parts written in turn
pub head_written : (block first second third : List ℕ) → length block ≡ 55
    → length first ≡ 16 → length second ≡ 4 → length third ≡ 2
    → take 22 (put_mid 20 2 (put_mid 16 4 (first ++ post_of 0 16 block) second) third)
    ≡ first ++ second ++ third
head_written block first second third whole l1 l2 l3 =
    let n1 : length (first ++ post_of 0 16 block) ≡ 55 =
    omega (arith, length-append first (drop 16 block), length-drop 16 block) in
    let e1 : take 16 (first ++ post_of 0 16 block) ≡ first = take_at first _ 16 l1 in
    let e2 : take 20 (put_mid 16 4 (first ++ post_of 0 16 block) second) ≡ first ++ second =
    take-put_mid 16 4 (first ++ post_of 0 16 block) second 20 (omega arith) (omega arith)
    ∙ ap (λ (xs : List ℕ). xs ++ second) e1 in
    let n2 : 20 ≤ length (put_mid 16 4 (first ++ post_of 0 16 block) second) =
    omega (
      arith,
      ap length (take-append-drop 20 (put_mid 16 4 (first ++ post_of 0 16 block) second)),
      ap length e2,
      length-append first second,
      length-append (take 20 (put_mid 16 4 (first ++ post_of 0 16 block) second))
          (drop 20 (put_mid 16 4 (first ++ post_of 0 16 block) second)),
    ) in
    take-put_mid 20 2 (put_mid 16 4 (first ++ post_of 0 16 block) second) third 22 (omega arith) n2
    ∙ ap (λ (xs : List ℕ). xs ++ third) e2

-- the last 33 bytes written in two parts
pub step_written : (block tmp : List ℕ) (j : ℕ) → length block ≡ 55
    → put_mid 23 32 (slice_set block 22 j) tmp ≡ take 22 block ++ (j ∷ tmp)
step_written block tmp j whole =
    let front : take 23 (slice_set block 22 j) ≡ take 22 block ++ j ∷ [] =
    take_more_set block 22 j (omega arith) in
    let size : length (drop 23 (slice_set block 22 j)) ≤ 32 =
    omega (arith, length-drop 23 (slice_set block 22 j), length-set block 22 j) in
    let rest : drop 32 (drop 23 (slice_set block 22 j)) ≡ [] =
    drop_all 32 (drop 23 (slice_set block 22 j)) size in
    rw (front, rest, append-nil, append_assoc) refl

-- a hash and two bytes after it
pub tail_written : (first second : List ℕ) → length first ≡ 32
    → put_mid 32 2 (first ++ (0 ∷ 0 ∷ [])) second ≡ first ++ second
tail_written first second size =
    let front : take 32 (first ++ (0 ∷ 0 ∷ [])) ≡ first = take_at first (0 ∷ 0 ∷ []) 32 size in
    let back : drop 32 (first ++ (0 ∷ 0 ∷ [])) ≡ 0 ∷ 0 ∷ [] = drop_at first (0 ∷ 0 ∷ []) 32 size in
    rw (front, back, append-nil) refl
