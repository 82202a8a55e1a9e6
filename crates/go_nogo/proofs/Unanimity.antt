-- When votes are unanimous.
use Rattle.std.proofs.Common.{◌≡◌, ℕ, Bool, true, List, [], ◌∷◌, refl, sym, ◌∙◌, arith}
use Rattle.std.specs.Prelude.{◌↔◌, IsTrue}
use Rattle.std.specs.List.{list_all}
use Rattle.std.proofs.lemmas.Bool.{and_parts, and_from}
use Rattle.std.proofs.lemmas.List.Sums.{AllPass-from_list_all, list_all-from_AllPass}
use Rattle.std.proofs.lemmas.Slice.Eq.{bytes_eq-Decides}
use Rattle.go_nogo.specs.declared.votes.Vote.{Vote}
use Rattle.go_nogo.specs.Votes.{AreUnanimous, is_unanimous, is_yes_with}

-- where all say yes and carry a view, they are unanimous
all_with : (votes : List Vote) (view : List ℕ) → list_all (is_yes_with view) votes ≡ true → AreUnanimous votes
all_with votes view e = (
  view,
  λ k d lt.
      let parts = and_parts _ _ (AllPass-from_list_all (is_yes_with view) votes e k d lt) in
      (parts.0, (bytes_eq-Decides _ view).0 parts.1),
)

-- where they are unanimous, all say yes and carry the view of the first
with_first : (first : Vote) (others : List Vote) → AreUnanimous (first ∷ others) → list_all (is_yes_with first.view) (first ∷ others) ≡ true
with_first first others all =
    let own : first.view ≡ all.0 = (all.1 0 first (omega arith)).1 in
    list_all-from_AllPass (is_yes_with first.view) (first ∷ others)
    (λ k d lt. let parts = all.1 k d lt in and_from _ _ parts.0 ((bytes_eq-Decides _ _).1 (parts.1 ∙ sym own)))

unanimous-are : (votes : List Vote) → is_unanimous votes ≡ true → AreUnanimous votes
unanimous-are [] e = ([], λ k d lt. absurd (omega (arith, lt)))
unanimous-are (first ∷ others) e = all_with (first ∷ others) first.view e

are-unanimous : (votes : List Vote) → AreUnanimous votes → is_unanimous votes ≡ true
are-unanimous [] all = refl
are-unanimous (first ∷ others) all = with_first first others all

pub unanimity : (votes : List Vote) (r : Bool) → r ≡ is_unanimous votes → IsTrue r ↔ AreUnanimous votes
unanimity votes r e = (λ is. unanimous-are votes (sym e ∙ is), λ all. e ∙ are-unanimous votes all)
