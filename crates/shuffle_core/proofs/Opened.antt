-- Opening entries through layer after layer.
use Rattle.std.proofs.Common.{◌≡◌, ℕ, ◌+◌, ◌<◌, ◌≤◌, List, [], ◌∷◌, ◌++◌, length, map, get_or, refl, sym, ap, ◌∙◌, arith, Option, Some, None, All}
use Rattle.std.specs.Option.{option_and_then, option_map, ForSome}
use Rattle.std.proofs.lemmas.List.{get_or-map, length-map}
use Rattle.layer_cipher.specs.Layer.{peeled, opened_through}
use Rattle.layer_cipher.proofs.LayerLemmas.{peels_exactly, layer_adds}
use Rattle.shuffle_core.specs.Shuffle.{body_of, opened_item, opened_list}

-- what is found last, after one layer and then those of the others
last_found : (o : Option (List ℕ × List ℕ)) (seeds : List (List ℕ)) →
    option_map (λ (found : List (List ℕ) × List ℕ). found.1)
    (option_and_then (λ (p : List ℕ × List ℕ). option_map (λ (q : List (List ℕ) × List ℕ). (p.0 ∷ q.0, q.1)) (opened_through seeds p.1)) o)
    ≡ option_and_then (opened_item seeds) (option_map (λ (found : List ℕ × List ℕ). found.1) o)
unfolding opened_item
last_found None seeds = refl
last_found (Some p) seeds = inner (opened_through seeds p.1)
  where
    inner : (r : Option (List (List ℕ) × List ℕ)) → option_map (λ (found : List (List ℕ) × List ℕ). found.1)
        (option_map (λ (q : List (List ℕ) × List ℕ). (p.0 ∷ q.0, q.1)) r)
        ≡ option_map (λ (found : List (List ℕ) × List ℕ). found.1) r
    inner None = refl
    inner (Some q) = refl

pub opened_item-nil : (entry : List ℕ) → opened_item [] entry ≡ Some entry
unfolding opened_item opened_through
opened_item-nil entry = refl

pub opened_item-cons : (seed : List ℕ) (seeds : List (List ℕ)) (entry : List ℕ)
    → opened_item (seed ∷ seeds) entry ≡ option_and_then (opened_item seeds) (body_of seed entry)
unfolding opened_item opened_through
opened_item-cons seed seeds entry = last_found (peeled seed entry) seeds

-- ---- one layer more
after_first : (seed : List ℕ) (seeds : List (List ℕ)) (o : Option (List ℕ))
    → ((entry : List ℕ) → opened_item (seeds ++ seed ∷ []) entry ≡ option_and_then (body_of seed) (opened_item seeds entry))
    → option_and_then (opened_item (seeds ++ seed ∷ [])) o ≡ option_and_then (body_of seed) (option_and_then (opened_item seeds) o)
after_first seed seeds None rest = refl
after_first seed seeds (Some body) rest = rest body

opened_item-one : (seed : List ℕ) (o : Option (List ℕ)) → option_and_then (opened_item []) o ≡ o
opened_item-one seed None = refl
opened_item-one seed (Some body) = opened_item-nil body

opened_item-push : (seed : List ℕ) (seeds : List (List ℕ)) (entry : List ℕ)
    → opened_item (seeds ++ seed ∷ []) entry ≡ option_and_then (body_of seed) (opened_item seeds entry)
opened_item-push seed [] entry = opened_item-cons seed [] entry ∙ opened_item-one seed (body_of seed entry)
    ∙ sym (ap (option_and_then (body_of seed)) (opened_item-nil entry))
opened_item-push seed (first ∷ seeds) entry =
    opened_item-cons first (seeds ++ seed ∷ []) entry
    ∙ after_first seed seeds (body_of first entry) (opened_item-push seed seeds)
    ∙ sym (ap (option_and_then (body_of seed)) (opened_item-cons first seeds entry))

pub opened_list-nil : (entries : List (List ℕ)) → map Some entries ≡ opened_list [] entries
opened_list-nil [] = refl
opened_list-nil (entry ∷ entries) = rw (opened_item-nil entry, opened_list-nil entries) refl

pub opened_list-push : (seed : List ℕ) (seeds entries : List (List ℕ))
    → map (option_and_then (body_of seed)) (opened_list seeds entries) ≡ opened_list (seeds ++ seed ∷ []) entries
opened_list-push seed seeds [] = refl
opened_list-push seed seeds (entry ∷ entries) = rw (← opened_item-push seed seeds entry, opened_list-push seed seeds entries) refl

-- ---- what is opened is no longer than it was
body_shorter : (seed entry body : List ℕ) (o : Option (List ℕ × List ℕ)) → peeled seed entry ≡ o
    → option_map (λ (found : List ℕ × List ℕ). found.1) o ≡ Some body → length body ≤ length entry
body_shorter seed entry body None is e = cc
body_shorter seed entry body (Some p) is e =
    let opens = (peels_exactly seed entry p.0 p.1).0 is in
    let long : length entry ≡ length p.1 + 2272 = rw opens.is (layer_adds _ p.0 p.1) in
    let same : p.1 ≡ body = cc in
    omega (arith, ap length same)

through : (seed entry item : List ℕ) (seeds : List (List ℕ)) (o : Option (List ℕ)) → body_of seed entry ≡ o
    → option_and_then (opened_item seeds) o ≡ Some item
    → ((body : List ℕ) → opened_item seeds body ≡ Some item → length item ≤ length body) → length item ≤ length entry
through seed entry item seeds None is e rest = cc
through seed entry item seeds (Some body) is e rest =
    let inner = rest body e in
    let outer = body_shorter seed entry body (peeled seed entry) refl is in
    omega arith

item_shorter : (seeds : List (List ℕ)) (entry item : List ℕ) → opened_item seeds entry ≡ Some item → length item ≤ length entry
item_shorter [] entry item e =
    let found : Some entry ≡ Some item = sym (opened_item-nil entry) ∙ e in
    let same : entry ≡ item = cc in
    omega (arith, ap length same)
item_shorter (seed ∷ seeds) entry item e =
    through seed entry item seeds (body_of seed entry) refl (sym (opened_item-cons seed seeds entry) ∙ e)
    (λ body f. item_shorter seeds body item f)

pub opened_list_short : (seeds entries : List (List ℕ)) (bound : ℕ) → All (λ entry. length entry < bound) entries
    → All (λ item. ForSome item (λ bytes. length bytes < bound)) (opened_list seeds entries)
opened_list_short seeds entries bound short k d below item is =
    let within : k < length entries = omega (arith, length-map entries (opened_item seeds)) in
    let found : opened_item seeds (get_or entries k []) ≡ Some item = sym (get_or-map (opened_item seeds) entries k [] d within) ∙ is in
    omega (arith, short k [] within, item_shorter seeds (get_or entries k []) item found)
