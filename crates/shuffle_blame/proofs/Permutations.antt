-- The test of another order is exact.
use Rattle.std.proofs.Common.{◌≡◌, ℕ, suc, ◌+◌, ◌<◌, ◌≤◌, List, [], ◌∷◌, length, Bool, true, false, cond, Option, Some, None, get_or, refl, sym, ap, ◌∙◌, arith, nat_lt, IsPermutation}
use Rattle.std.proofs.lemmas.Bool.Decides.{nat_tests}
use Rattle.std.proofs.lemmas.List.Sums.{fails_before_first}
use Rattle.std.specs.List.{position, position_or_len, remove, sum_by}
use Rattle.std.specs.Str.{bytes_eq}
use Rattle.std.proofs.lemmas.List.Quantifiers.{position-Some}
use Rattle.std.proofs.lemmas.List.Sorted.{IsPermutation-refl, IsPermutation-cons, IsPermutation-remove, IsPermutation-trans, sum_by-IsPermutation, sum_by_pushed}
use Rattle.std.proofs.lemmas.Slice.Eq.{bytes_eq-Decides}
use Rattle.shuffle_blame.specs.Replay.{is_passed, is_permutation}
use Rattle.shuffle_blame.specs.Laws.{PermutationsAreFound}

permutation-cons : (entry : List ℕ) (entries others : List (List ℕ))
    → is_permutation (entry ∷ entries) others ≡ is_passed (λ place. is_permutation entries (remove others place))
    (position (bytes_eq entry) others)
unfolding is_permutation
permutation-cons entry entries others = refl

passed-some : {A : Type 0} (passes : A → Bool) (o : Option A) → is_passed passes o ≡ true → (x : A) × (o ≡ Some x) × (passes x ≡ true)
passed-some passes None e = absurd cc
passed-some passes (Some x) e = (x, refl, e)

-- taking an entry out of its place puts it to the front
to_front : (entry : List ℕ) (others : List (List ℕ)) (place : ℕ) → position (bytes_eq entry) others ≡ Some place
    → IsPermutation others (entry ∷ remove others place)
to_front entry others place e =
    let found = position-Some (bytes_eq entry) others place entry e in
    IsPermutation-remove others place entry found.0 ((bytes_eq-Decides entry (get_or others place entry)).0 found.1)

pub permutation_there : (list bodies : List (List ℕ)) → is_permutation list bodies ≡ true → IsPermutation bodies list
unfolding is_permutation
permutation_there [] [] e = IsPermutation-refl []
permutation_there [] (body ∷ bodies) e = absurd cc
permutation_there (entry ∷ entries) bodies e =
    let found = passed-some (λ place. is_permutation entries (remove bodies place)) (position (bytes_eq entry) bodies)
    (sym (permutation-cons entry entries bodies) ∙ e) in
    IsPermutation-trans bodies (entry ∷ remove bodies found.0) (entry ∷ entries) (to_front entry bodies found.0 found.1)
    (IsPermutation-cons entry (remove bodies found.0) entries (permutation_there entries (remove bodies found.0) found.2))

-- ---- how often an entry stands in a list

count_of : List ℕ → List (List ℕ) → ℕ
count_of entry list = sum_by (λ other. cond (bytes_eq entry other) 1 0) list

count-cons : (y x : List ℕ) (xs : List (List ℕ)) → count_of y (x ∷ xs) ≡ cond (bytes_eq y x) 1 0 + count_of y xs
unfolding count_of
count-cons y x xs = sum_by_pushed (λ other. cond (bytes_eq y other) 1 0) x xs (x ∷ xs) (IsPermutation-refl (x ∷ xs))

count-order : (y : List ℕ) (xs ys : List (List ℕ)) → IsPermutation xs ys → count_of y ys ≡ count_of y xs
unfolding count_of
count-order y xs ys order = sum_by-IsPermutation (λ other. cond (bytes_eq y other) 1 0) xs ys order

count-self : (x : List ℕ) (xs : List (List ℕ)) → count_of x (x ∷ xs) ≡ 1 + count_of x xs
count-self x xs =
    let test : bytes_eq x x ≡ true = (bytes_eq-Decides x x).1 refl in
    count-cons x x xs ∙ ap (λ (b : Bool). cond b 1 0 + count_of x xs) test

-- where an entry stands nowhere it is counted nowhere
count-absent : (entry : List ℕ) (others : List (List ℕ)) → ((k : ℕ) → k < length others → bytes_eq entry (get_or others k []) ≡ false)
    → count_of entry others ≡ 0
unfolding count_of
count-absent entry [] fails = refl
count-absent entry (other ∷ others) fails =
    let first : bytes_eq entry other ≡ false = fails 0 (omega arith) in
    let rest : count_of entry others ≡ 0 = count-absent entry others (λ k lt. fails (suc k) (omega arith)) in
    count-cons entry other others ∙ ap (λ (b : Bool). cond b 1 0 + count_of entry others) first
    ∙ (let sum : cond false 1 0 + count_of entry others ≡ 0 = omega (arith, rest) in sum)

-- the same number of each entry
SameCounts : List (List ℕ) → List (List ℕ) → Type 0
SameCounts list bodies = (y : List ℕ) → count_of y bodies ≡ count_of y list

counted_first : (y entry : List ℕ) (others : List (List ℕ)) (place : ℕ) → position (bytes_eq entry) others ≡ Some place
    → cond (bytes_eq y entry) 1 0 + count_of y (remove others place) ≡ count_of y others
counted_first y entry others place e =
    sym (count-cons y entry (remove others place)) ∙ count-order y others (entry ∷ remove others place) (to_front entry others place e)

cancel : (w x y : ℕ) → w + x ≡ w + y → x ≡ y
cancel w x y e = omega arith

counts-rest : (entry : List ℕ) (entries bodies : List (List ℕ)) (place : ℕ) → position (bytes_eq entry) bodies ≡ Some place
    → SameCounts (entry ∷ entries) bodies → SameCounts entries (remove bodies place)
unfolding SameCounts
counts-rest entry entries bodies place e same y =
    cancel (cond (bytes_eq y entry) 1 0) (count_of y (remove bodies place)) (count_of y entries)
    (counted_first y entry bodies place e ∙ same y ∙ count-cons y entry entries)

past_end : (b : Bool) (place : ℕ) → cond b (Some place) None ≡ None → b ≡ false
past_end true place e = absurd cc
past_end false place e = refl

fails_each : (entry : List ℕ) (others : List (List ℕ)) → position (bytes_eq entry) others ≡ None → (k : ℕ) → k < length others
    → bytes_eq entry (get_or others k []) ≡ false
fails_each entry others e k lt =
    let first : ℕ = position_or_len (bytes_eq entry) others in
    let test : nat_lt first (length others) ≡ false = past_end (nat_lt first (length others)) first e in
    let all : length others ≤ first = grind (arith, nat_tests) in
    fails_before_first (bytes_eq entry) others k [] (omega arith)

count-nothing : (y : List ℕ) → count_of y [] ≡ 0
unfolding count_of
count-nothing y = refl

permutation_back : (list bodies : List (List ℕ)) → SameCounts list bodies → is_permutation list bodies ≡ true
unfolding is_permutation SameCounts
permutation_back [] [] same = refl
permutation_back [] (body ∷ bodies) same =
    let one = count-self body bodies in
    let here = same body in
    let none = count-nothing body in
    absurd (omega arith)
permutation_back (entry ∷ entries) bodies same =
    by_place (position (bytes_eq entry) bodies) refl (λ place e. permutation_back entries (remove bodies place)
    (counts-rest entry entries bodies place e same))
  where
    by_place : (o : Option ℕ) → position (bytes_eq entry) bodies ≡ o
        → ((place : ℕ) → position (bytes_eq entry) bodies ≡ Some place → is_permutation entries (remove bodies place) ≡ true)
        → is_permutation (entry ∷ entries) bodies ≡ true
    by_place None e rest =
        let none = count-absent entry bodies (fails_each entry bodies e) in
        let here = same entry in
        let one = count-self entry entries in
        absurd (omega arith)
    by_place (Some place) e rest =
        permutation-cons entry entries bodies ∙ ap (is_passed (λ place. is_permutation entries (remove bodies place))) e ∙ rest place e

pub permutations_are_found : PermutationsAreFound
unfolding SameCounts
permutations_are_found list bodies = (
  permutation_there list bodies,
  λ order. permutation_back list bodies
      (λ y. sym (count-order y bodies list order)),
)
