-- What the lists of a shuffle hold where no turn is at fault.
use Rattle.std.proofs.Common.{◌≡◌, ℕ, zero, suc, ◌+◌, ◌-◌, ◌<◌, List, [], ◌∷◌, ◌++◌, length, take, true, Option, Some, None, refl, sym, ap, ◌∙◌, arith, IsPermutation}
use Rattle.std.specs.Option.{option_and_then}
use Rattle.std.proofs.lemmas.List.Sorted.{IsPermutation-refl, IsPermutation-sym, IsPermutation-trans}
use Rattle.wire_core.specs.Answers.{fault_unless}
use Rattle.wire_core.proofs.AnswerLemmas.{fault_unless-holds}
use Rattle.layer_cipher.specs.Stripping.{stripped, stripped_through}
use Rattle.layer_cipher.proofs.StrippingLemmas.{strips_in_any_order}
use Rattle.layer_cipher.proofs.ThroughLemmas.{strips_through_more}
use Rattle.shuffle_blame.specs.declared.fault.Cause.TheVariants.{Shuffle}
use Rattle.shuffle_blame.specs.Replay.{Inquiry, bodies_before, fault, is_order_of, is_turn, list_after, outer_seed, outer_seeds, submissions}
use Rattle.shuffle_blame.specs.Laws.{HasStripped, LastListHas, ListsAreStripped}
use Rattle.shuffle_blame.proofs.Faults.{first_member-each}
use Rattle.shuffle_blame.proofs.Layers.{seeds-next}
use Rattle.shuffle_blame.proofs.Permutations.{permutation_there}

record Ordered (o said : Option (List (List ℕ))) : Type 0 where
  bodies : List (List ℕ)
  list : List (List ℕ)
  first : o ≡ Some bodies
  second : said ≡ Some list
  order : IsPermutation bodies list

ordered : (o said : Option (List (List ℕ))) → is_order_of o said ≡ true → Ordered o said
ordered (Some bodies) (Some list) e = record {
  bodies = bodies;
  list = list;
  first = refl;
  second = refl;
  order = permutation_there list
      bodies e;
}
ordered None said e = absurd cc
ordered (Some bodies) None e = absurd cc

nothing_off : (entries : List (List ℕ)) → stripped_through [] entries ≡ Some entries
unfolding stripped_through
nothing_off entries = refl

-- one turn more
next_list : (q : Inquiry) (turns : ℕ) → turns < length q.shown → HasStripped q turns → is_turn q (suc turns) ≡ true
    → HasStripped q (suc turns)
next_list q turns lt so_far right =
    let said = ordered (bodies_before q (suc turns)) (list_after q (suc turns)) right in
    let seed : List ℕ = outer_seed q (suc turns) in
    let place : suc turns - 1 ≡ turns = omega arith in
    let before : list_after q (suc turns - 1) ≡ Some so_far.list = ap (list_after q) place ∙ so_far.said in
    let bodies : stripped seed so_far.list ≡ Some said.bodies = sym (ap (option_and_then (stripped seed)) before) ∙ said.first in
    let rest = strips_in_any_order seed so_far.list so_far.bodies said.bodies (IsPermutation-sym so_far.bodies so_far.list so_far.order)
    bodies in
    let more = strips_through_more (take turns (outer_seeds q)) seed (submissions q) so_far.bodies so_far.stripped in
    let next : suc turns ≡ turns + 1 = omega arith in
    let seeds : take (suc turns) (outer_seeds q) ≡ take turns (outer_seeds q) ++ seed ∷ []
    = ap (λ (k : ℕ). take k (outer_seeds q)) next ∙ seeds-next q turns lt
    ∙ ap (λ (k : ℕ). take turns (outer_seeds q) ++ outer_seed q k ∷ []) (sym next) in
    record {
      list = said.list;
      bodies = rest.0;
      said = said.second;
      stripped = ap (λ (s : List (List ℕ)). stripped_through s (submissions q)) seeds ∙ more ∙ rest.1;
      order = IsPermutation-trans rest.0 said.bodies said.list (IsPermutation-sym said.bodies rest.0 rest.2) said.order;
    }

pub lists_are_stripped : ListsAreStripped
lists_are_stripped q zero le right = record {
  list = submissions q;
  bodies = submissions q;
  said = refl;
  stripped = nothing_off (submissions q);
  order = IsPermutation-refl (submissions q);
}
lists_are_stripped q (suc turns) le right =
    next_list q turns (omega arith) (lists_are_stripped q turns (omega arith) (λ turn least most. right turn least (omega arith)))
    (right (suc turns) (omega arith) (omega arith))

pub last_list_has : LastListHas
last_list_has q long none =
    lists_are_stripped q q.shape.members long (λ turn least most.
    fault_unless-holds (is_turn q turn) (fault Shuffle turn)
    (first_member-each q (λ turn. fault_unless (is_turn q turn) (fault Shuffle turn)) turn none (record { least = least; most = most })))
