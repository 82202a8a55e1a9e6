-- Writing the keys of a roster one behind the other.
use Rattle.std.proofs.Common.{◌≡◌, ℕ, ◌+◌, ◌<◌, ◌≤◌, List, [], ◌∷◌, ◌++◌, length, get_or, take, sym, ap, ◌∙◌, append_assoc, append-nil}
use Rattle.std.specs.List.{concat}
use Rattle.std.proofs.lemmas.List.{take_more}
use Rattle.std.proofs.lemmas.List.Folds.{concat-append}
use Rattle.std.proofs.lemmas.Slice.{take-put_mid}
use borrow.Rule.Slice.PartMut.{put_mid}

-- the next key joins those that were written
pub concat-more : (keys : List (List ℕ)) (k : ℕ) → k < length keys → concat (take (k + 1) keys) ≡ concat (take k keys) ++ get_or keys k []
concat-more keys k lt =
    ap concat (take_more keys k [] lt)
    ∙ concat-append (take k keys) (get_or keys k [] ∷ [])
    ∙ ap (λ (x : List ℕ). concat (take k keys) ++ x) (append-nil (get_or keys k []))

pub spelled-more : (head : List ℕ) (keys : List (List ℕ)) (k : ℕ) (bytes part : List ℕ) (a m n : ℕ) → a ≤ length bytes
    → part ≡ get_or keys k [] → n ≡ a + length part → k < length keys → take a bytes ≡ head ++ concat (take k keys)
    → take n (put_mid a m bytes part) ≡ head ++ concat (take (k + 1) keys)
spelled-more head keys k bytes part a m n room part-is n-is lt so_far =
    take-put_mid a m bytes part n n-is room
    ∙ ap (λ (x : List ℕ). x ++ part) so_far
    ∙ append_assoc head (concat (take k keys)) part
    ∙ ap (λ (x : List ℕ). head ++ (concat (take k keys) ++ x)) part-is
    ∙ ap (λ (x : List ℕ). head ++ x) (sym (concat-more keys k lt))
