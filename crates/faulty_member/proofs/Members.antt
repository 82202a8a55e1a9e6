-- What each of the members in turn says.
use Rattle.std.proofs.Common.{◌≡◌, ℕ, ◌+◌, ◌-◌, ◌≤◌, List, [], ◌∷◌, ◌++◌, map, ap, sym, ◌∙◌, arith}
use Rattle.std.specs.List.{range_with_len}
use Rattle.std.proofs.lemmas.List.FromFn.{map-range_with_len_more}

-- with what one more member says
pub member-next : {A : Type 0} (f : ℕ → A) (sender : ℕ) (list : List A) (x : A) → 1 ≤ sender → list ≡ map f (range_with_len 1 (sender - 1))
    → x ≡ f sender
    → list ++ x ∷ [] ≡ map f (range_with_len 1 (sender + 1 - 1))
member-next {A} f sender list x least so_far is =
    let place : sender + 1 - 1 ≡ (sender - 1) + 1 = omega arith in
    ap (λ (front : List A). front ++ x ∷ []) so_far
    ∙ ap (λ (last : A). map f (range_with_len 1 (sender - 1)) ++ last ∷ []) is
    ∙ sym (map-range_with_len_more f 1 (sender - 1) sender (omega arith))
    ∙ ap (λ (k : ℕ). map f (range_with_len 1 k)) (sym place)
