-- A string that is made of four parts, the first of them four bytes long.
use Rattle.std.proofs.Common.{◌≡◌, ℕ, ◌+◌, List, ◌++◌, length, take, drop, refl, sym, ◌∙◌, ap, append_assoc}
use Rattle.std.proofs.lemmas.List.{drop-drop, drop_at, take-append-drop, take_at}

-- any string is its four parts
pub in_four_parts : (s : List ℕ) (n m : ℕ)
    → s ≡ take 4 s ++ take n (drop 4 s) ++ take m (drop (4 + n) s) ++ drop (4 + n + m) s
in_four_parts s n m =
    let e1 : take 4 s ++ drop 4 s ≡ s = take-append-drop 4 s in
    let e2 : take n (drop 4 s) ++ drop (4 + n) s ≡ drop 4 s =
    rw (drop-drop n 4 s) at (take-append-drop n (drop 4 s)) in
    let e3 : take m (drop (4 + n) s) ++ drop (4 + n + m) s ≡ drop (4 + n) s =
    rw (drop-drop m (4 + n) s) at (take-append-drop m (drop (4 + n) s)) in
    sym (rw (append_assoc, append_assoc, e3, e2) e1)

-- where the parts of a string stand
pub record PartsAre (s first second third fourth : List ℕ) (n m : ℕ) : Type 0 where
  pub whole : s ≡ first ++ (second ++ (third ++ fourth))
  pub after_first : drop 4 s ≡ second ++ (third ++ fourth)
  pub second_is : take n (drop 4 s) ≡ second
  pub after_second : drop (4 + n) s ≡ third ++ fourth
  pub third_is : take m (drop (4 + n) s) ≡ third
  pub fourth_is : drop (4 + n + m) s ≡ fourth

pub of_four_parts : (s first second third fourth : List ℕ) (n m : ℕ)
    → s ≡ first ++ second ++ third ++ fourth → length first ≡ 4 → length second ≡ n → length third ≡ m
    → PartsAre s first second third fourth n m
of_four_parts s first second third fourth n m parts l1 l2 l3 =
    let nested : first ++ second ++ third ++ fourth ≡ first ++ (second ++ (third ++ fourth)) =
    rw (append_assoc (first ++ second) third fourth, append_assoc first second (third ++ fourth)) refl in
    let e0 : s ≡ first ++ (second ++ (third ++ fourth)) = parts ∙ nested in
    let e1 : drop 4 s ≡ second ++ (third ++ fourth) =
    ap (λ (t : List ℕ). drop 4 t) e0 ∙ drop_at first (second ++ (third ++ fourth)) 4 l1 in
    let e2 : drop (4 + n) s ≡ third ++ fourth =
    sym (drop-drop n 4 s) ∙ ap (λ (t : List ℕ). drop n t) e1 ∙ drop_at second (third ++ fourth) n l2 in
    record {
      whole = e0;
      after_first = e1;
      second_is = ap (λ (t : List ℕ). take n t) e1 ∙ take_at second (third ++ fourth) n l2;
      after_second = e2;
      third_is = ap (λ (t : List ℕ). take m t) e2 ∙ take_at third fourth m l3;
      fourth_is = sym (drop-drop m (4 + n) s) ∙ ap (λ (t : List ℕ). drop m t) e2 ∙ drop_at third fourth m l3;
    }
