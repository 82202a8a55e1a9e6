-- What writes to parts of a block of bytes leave.
use Rattle.std.proofs.Common.{◌≡◌, ℕ, ◌+◌, ◌≤◌, List, ◌++◌, length, take, drop, refl, sym, ◌∙◌, ap, arith, length-append}
use Rattle.std.proofs.lemmas.List.{length-drop, length-take-le, take_at, take_all}
use Rattle.std.proofs.lemmas.Slice.{take-put_mid}
use borrow.Rule.Slice.PartMut.{put_mid, post_of}

-- a write to a part keeps the length
pub length-put_mid : (xs part : List ℕ) (at size : ℕ) → at + size ≤ length xs → length part ≡ size
    → length (put_mid at size xs part) ≡ length xs
length-put_mid xs part at size inside whole =
    omega (
      arith,
      length-append (take at xs) (part ++ drop size (drop at xs)),
      length-append part (drop size (drop at xs)),
      length-drop size (drop at xs),
      length-drop at xs,
      length-take-le at xs (omega arith),
    )

-- a part written after what stands at the front
pub front_grows : (xs front part : List ℕ) (at size end : ℕ) → take at xs ≡ front
    → at + size ≤ length xs → length part ≡ size → end ≡ at + size
    → take end (put_mid at size xs part) ≡ front ++ part
front_grows xs front part at size end is_front inside whole is_end =
    take-put_mid at size xs part end (omega arith) (omega arith)
    ∙ ap (λ (ys : List ℕ). ys ++ part) is_front

-- four parts written in turn over 56 bytes
pub key_written : (block first second third fourth : List ℕ) → length block ≡ 56
    → length first ≡ 4 → length second ≡ 4 → length third ≡ 16 → length fourth ≡ 32
    → put_mid 24 32 (put_mid 8 16 (put_mid 4 4 (first ++ post_of 0 4 block) second) third) fourth
    ≡ first ++ second ++ third ++ fourth
key_written block first second third fourth whole l1 l2 l3 l4 =
    let one : List ℕ = first ++ post_of 0 4 block in
    let two : List ℕ = put_mid 4 4 one second in
    let three : List ℕ = put_mid 8 16 two third in
    let n1 : length one ≡ 56 = omega (arith, length-append first (drop 4 block), length-drop 4 block) in
    let n2 : length two ≡ 56 = length-put_mid one second 4 4 (omega arith) l2 ∙ n1 in
    let n3 : length three ≡ 56 = length-put_mid two third 8 16 (omega arith) l3 ∙ n2 in
    let n4 : length (put_mid 24 32 three fourth) ≡ 56 = length-put_mid three fourth 24 32 (omega arith) l4 ∙ n3 in
    let e1 : take 4 one ≡ first = take_at first (drop 4 block) 4 l1 in
    let e2 : take 8 two ≡ first ++ second = front_grows one first second 4 4 8 e1 (omega arith) l2 refl in
    let e3 : take 24 three ≡ first ++ second ++ third =
    front_grows two (first ++ second) third 8 16 24 e2 (omega arith) l3 refl in
    let e4 : take 56 (put_mid 24 32 three fourth) ≡ first ++ second ++ third ++ fourth =
    front_grows three (first ++ second ++ third) fourth 24 32 56 e3 (omega arith) l4 refl in
    sym (take_all 56 (put_mid 24 32 three fourth) (omega arith)) ∙ e4
