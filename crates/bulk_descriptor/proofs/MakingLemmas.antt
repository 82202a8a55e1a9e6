-- The pads of a maker, and what it makes.
use Rattle.std.proofs.Common.{◌≡◌, ℕ, ◌+◌, ◌-◌, ◌<◌, ◌≤◌, List, [], ◌∷◌, ◌++◌, take, drop, length, get_or, refl, sym, ap, ◌∙◌, arith, All, inl, inr}
use Rattle.std.specs.Prelude.{insert, remove}
use Rattle.std.specs.List.{AllByRecursion}
use Rattle.std.proofs.lemmas.List.{take-append-drop, get_or-map, map-append, length-map}
use Rattle.std.proofs.lemmas.Bool.{cases_order}
use Rattle.std.proofs.lemmas.List.Edits.{length-insert, length-remove, get_or-insert_below, get_or-insert_at, get_or-insert_above, get_or-remove_below, get_or-remove_above}
use Rattle.std.proofs.lemmas.List.Elements.{All-append, All-take, All-drop, All-cons, All-map, recursion_from_All}
use Rattle.wire_core.specs.declared.tag.Tag.TheVariants.{PadStream}
use Rattle.wire_core.specs.Hash.{hash_of}
use Rattle.pad_stream.specs.Stream.{pad_of}
use Rattle.pad_stream.specs.ExclusiveOr.{exclusive_or}
use Rattle.pad_stream.proofs.StreamLemmas.{length-bytes_from}
use Rattle.pad_stream.proofs.ExclusiveOrLemmas.{exclusive_or_comm, exclusive_or_assoc, exclusive_or_undo, length-exclusive_or}
use Rattle.bulk_descriptor.specs.Descriptor.{pads_of, other_pads, hidden_under, own_pad, made_pads}
use Rattle.bulk_descriptor.specs.SlotState.{joined_pads}
use Rattle.bulk_descriptor.specs.Laws.{PadsGiveMessage}

-- ---- the exclusive or of many

-- two of three may change places
swapped : (a b c : List ℕ) → exclusive_or (exclusive_or a b) c ≡ exclusive_or (exclusive_or a c) b
swapped a b c = exclusive_or_assoc a b c ∙ ap (exclusive_or a) (exclusive_or_comm b c) ∙ sym (exclusive_or_assoc a c b)

hidden_under-exclusive_or : (a c : List ℕ) (pads : List (List ℕ))
    → hidden_under (exclusive_or a c) pads ≡ exclusive_or (hidden_under a pads) c
hidden_under-exclusive_or a c [] = refl
hidden_under-exclusive_or a c (d ∷ pads) = ap (λ (x : List ℕ). hidden_under x pads) (swapped a c d)
    ∙ hidden_under-exclusive_or (exclusive_or a d) c pads

pub length-hidden_under : (count : ℕ) (bytes : List ℕ) (pads : List (List ℕ)) → length bytes ≡ count
    → AllByRecursion (λ pad. length pad ≡ count) pads → length (hidden_under bytes pads) ≡ count
length-hidden_under count bytes [] long sizes = long
length-hidden_under count bytes (d ∷ pads) long sizes =
    length-hidden_under count (exclusive_or bytes d) pads (length-exclusive_or bytes d (long ∙ sym sizes.0) ∙ long) sizes.1

-- hidden twice is not hidden
hidden_twice : (count : ℕ) (bytes : List ℕ) (pads : List (List ℕ)) → length bytes ≡ count → AllByRecursion (λ pad. length pad ≡ count) pads
    → hidden_under (hidden_under bytes pads) pads ≡ bytes
hidden_twice count bytes [] long sizes = refl
hidden_twice count bytes (d ∷ pads) long sizes =
    let inner : hidden_under (exclusive_or bytes d) pads ≡ exclusive_or (hidden_under bytes pads) d = hidden_under-exclusive_or bytes d pads
    in
    let size : length (hidden_under bytes pads) ≤ length d = omega (arith, length-hidden_under count bytes pads long sizes.1, sizes.0) in
    let outer : exclusive_or (hidden_under (exclusive_or bytes d) pads) d ≡ hidden_under bytes pads = ap (λ (x : List ℕ). exclusive_or x d)
    inner ∙ exclusive_or_undo (hidden_under bytes pads) d size in
    ap (λ (x : List ℕ). hidden_under x pads) outer ∙ hidden_twice count bytes pads long sizes.1

-- one of many comes to the front
hidden_under-middle : (a x : List ℕ) (front back : List (List ℕ))
    → hidden_under a (front ++ x ∷ back) ≡ hidden_under (exclusive_or a x) (front ++ back)
hidden_under-middle a x [] back = refl
hidden_under-middle a x (d ∷ front) back =
    hidden_under-middle (exclusive_or a d) x front back ∙ ap (λ (y : List ℕ). hidden_under y (front ++ back)) (swapped a d x)

joined_pads-middle : (x : List ℕ) (front back : List (List ℕ)) → joined_pads (front ++ x ∷ back) ≡ hidden_under x (front ++ back)
unfolding joined_pads
joined_pads-middle x [] back = refl
joined_pads-middle x (d ∷ front) back =
    hidden_under-middle d x front back ∙ ap (λ (y : List ℕ). hidden_under y (front ++ back)) (exclusive_or_comm d x)

joined_pads-insert : (x : List ℕ) (pads : List (List ℕ)) (place : ℕ) → joined_pads (insert pads place x) ≡ hidden_under x pads
joined_pads-insert x pads place =
    joined_pads-middle x (take place pads) (drop place pads) ∙ ap (hidden_under x) (take-append-drop place pads)

-- ---- pads
pub length-pad_of : (seed : List ℕ) (count : ℕ) → length (pad_of seed count) ≡ count
length-pad_of seed count = length-bytes_from (hash_of PadStream (seed ∷ [])) 0 count

pub length-pads_of : (seeds : List (List ℕ)) (count : ℕ) → length (pads_of seeds count) ≡ length seeds
unfolding pads_of
length-pads_of seeds count = length-map seeds (λ seed. pad_of seed count)

sizes-pads_of : (seeds : List (List ℕ)) (count : ℕ) → All (λ pad. length pad ≡ count) (pads_of seeds count)
unfolding pads_of
sizes-pads_of seeds count = All-map (λ pad. length pad ≡ count) (λ seed. pad_of seed count) seeds (λ k d h. length-pad_of _ count)

pub get_or-pads_of : (seeds : List (List ℕ)) (count k : ℕ) → k < length seeds
    → get_or (pads_of seeds count) k [] ≡ pad_of (get_or seeds k []) count
unfolding pads_of
get_or-pads_of seeds count k h = get_or-map (λ seed. pad_of seed count) seeds k [] [] h

pub pads_of-append : (xs ys : List (List ℕ)) (count : ℕ) → pads_of (xs ++ ys) count ≡ pads_of xs count ++ pads_of ys count
unfolding pads_of
pads_of-append xs ys count = map-append (λ seed. pad_of seed count) xs ys

-- ---- the pads of a maker
pub length-own_pad : (seeds : List (List ℕ)) (member : ℕ) (message : List ℕ) → length (own_pad seeds member message) ≡ length message
unfolding own_pad
length-own_pad seeds member message =
    let count = length message in
    let others = other_pads seeds member count in
    length-hidden_under count message others refl (recursion_from_All (λ pad. length pad ≡ count) others
    (sizes-pads_of (remove seeds (member - 1)) count))

pub sizes-made_pads : (seeds : List (List ℕ)) (member : ℕ) (message : List ℕ)
    → All (λ pad. length pad ≡ length message) (made_pads seeds member message)
unfolding made_pads
sizes-made_pads seeds member message =
    let P : List ℕ → Type 0 = λ pad. length pad ≡ length message in
    let others = other_pads seeds member (length message) in
    let sizes : All P others = sizes-pads_of (remove seeds (member - 1)) (length message) in
    All-append P (take (member - 1) others) (own_pad seeds member message ∷ drop (member - 1) others)
    (All-take P (member - 1) others sizes)
    (All-cons P (own_pad seeds member message) (drop (member - 1) others) (length-own_pad seeds member message)
    (All-drop P (member - 1) others sizes))

pub pads_give_message : PadsGiveMessage
unfolding made_pads own_pad
pads_give_message seeds member message =
    let count = length message in
    let others = other_pads seeds member count in
    let sizes = recursion_from_All (λ pad. length pad ≡ count) others (sizes-pads_of (remove seeds (member - 1)) count) in
    joined_pads-insert (hidden_under message others) others (member - 1) ∙ hidden_twice count message others refl sizes

length-others : (seeds : List (List ℕ)) (member count : ℕ) → 1 ≤ member → member ≤ length seeds
    → length (other_pads seeds member count) + 1 ≡ length seeds
length-others seeds member count first last =
    omega (arith, length-pads_of (remove seeds (member - 1)) count, length-remove seeds (member - 1) (omega arith))

pub length-made_pads : (seeds : List (List ℕ)) (member : ℕ) (message : List ℕ) → 1 ≤ member → member ≤ length seeds
    → length (made_pads seeds member message) ≡ length seeds
unfolding made_pads
length-made_pads seeds member message first last =
    let others = other_pads seeds member (length message) in
    let count : length others + 1 ≡ length seeds = length-others seeds member (length message) first last in
    length-insert others (member - 1) (own_pad seeds member message) (omega arith) ∙ count

-- the own pad stands in the maker's place
pub made_pads-own : (seeds : List (List ℕ)) (member : ℕ) (message : List ℕ) → 1 ≤ member → member ≤ length seeds
    → get_or (made_pads seeds member message) (member - 1) [] ≡ own_pad seeds member message
unfolding made_pads
made_pads-own seeds member message first last =
    let others = other_pads seeds member (length message) in
    let count : length others + 1 ≡ length seeds = length-others seeds member (length message) first last in
    get_or-insert_at others (member - 1) (own_pad seeds member message) [] (omega arith)

-- places in a list that one is taken out of and another put into
replaced-other : (xs ys : List (List ℕ)) (f : List ℕ → List ℕ) (y : List ℕ) (p k : ℕ) → p < length xs → k < length xs → (k ≡ p → ⊥)
    → length ys + 1 ≡ length xs → ((i : ℕ) → i < length ys → get_or ys i [] ≡ f (get_or (remove xs p) i []))
    → get_or (insert ys p y) k [] ≡ f (get_or xs k [])
replaced-other xs ys f y p k in' below other long each =
    elim (cases_order k p) [
      | inl same ↦ absurd (other same)
      | inr apart ↦ elim apart [
        | inl before ↦
            get_or-insert_below ys p y [] k before (omega arith)
            ∙ each k (omega arith)
            ∙ ap f (get_or-remove_below xs p [] k before in')
        | inr after ↦ replaced-after xs ys f y p (k - 1) k in' below (omega arith) (omega arith) long each
      ]
    ]
  where
    replaced-after : (xs ys : List (List ℕ)) (f : List ℕ → List ℕ) (y : List ℕ) (p j k : ℕ) → p < length xs → k < length xs → k ≡ j + 1
        → p ≤ j
        → length ys + 1 ≡ length xs → ((i : ℕ) → i < length ys → get_or ys i [] ≡ f (get_or (remove xs p) i []))
        → get_or (insert ys p y) k [] ≡ f (get_or xs k [])
    replaced-after xs ys f y p j k in' below next after long each =
        let there : get_or (insert ys p y) (j + 1) [] ≡ get_or ys j [] = get_or-insert_above ys p y [] j after (omega arith) in
        let here : get_or (remove xs p) j [] ≡ get_or xs (j + 1) [] = get_or-remove_above xs p [] j after in' in
        rw next (there ∙ each j (omega arith) ∙ ap f here)

-- and the pad of each other seed in its own
pub made_pads-other : (seeds : List (List ℕ)) (maker member : ℕ) (message : List ℕ) → 1 ≤ maker → maker ≤ length seeds → 1 ≤ member
    → member ≤ length seeds → (member ≡ maker → ⊥)
    → get_or (made_pads seeds maker message) (member - 1) [] ≡ pad_of (get_or seeds (member - 1) []) (length message)
unfolding made_pads
made_pads-other seeds maker member message first last first' last' other =
    let count = length message in
    let others = other_pads seeds maker count in
    replaced-other seeds others (λ seed. pad_of seed count) (own_pad seeds maker message) (maker - 1) (member - 1) (omega arith)
    (omega arith) (λ same. other (omega arith))
    (length-others seeds maker count first last)
    (λ i h. get_or-pads_of (remove seeds (maker - 1)) count i (omega (arith, length-pads_of (remove seeds (maker - 1)) count)))
