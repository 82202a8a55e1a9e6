-- Finding the least member whose pad does not fit, and joining pads.
use Rattle.std.proofs.Common.{◌≡◌, ℕ, zero, suc, ◌+◌, ◌-◌, ◌<◌, ◌≤◌, Bool, true, false, cond, not, List, [], ◌∷◌, ◌++◌, take, drop, length, map, get_or, refl, sym, ap, subst, ◌∙◌, arith, Option, Some, None, All}
use Rattle.std.specs.List.{find, range_with_len}
use Rattle.std.proofs.lemmas.Bool.{cond-true, cond-false, not_from_false}
use Rattle.std.proofs.lemmas.List.{get_or-map, get_or_read, length-map, take_more, map-append}
use Rattle.std.proofs.lemmas.List.Sums.{fold-append}
use Rattle.std.proofs.lemmas.List.Elements.{All-get_or, All-from_get_or, All-drop, recursion_from_All}
use Rattle.std.specs.Prelude.{IfSome}
use Rattle.std.specs.Option.{option_map}
use Rattle.bulk_descriptor.specs.declared.descriptor.Descriptor.{Descriptor}
use Rattle.bulk_descriptor.specs.Fields.{description_of}
use Rattle.bulk_descriptor.proofs.MakingLemmas.{length-hidden_under}
use Rattle.std.specs.List.{drop-map, enumerate_from}
use Rattle.std.specs.Str.{bytes_eq}
use Rattle.std.proofs.lemmas.List.FromFn.{length-enumerate_from, get_or-enumerate_from}
use Rattle.wire_core.specs.declared.tag.Tag.TheVariants.{Message as OfMessage}
use Rattle.wire_core.specs.Hash.{hash_of}
use Rattle.bulk_descriptor.specs.declared.slot_state.SlotState.{SlotState}
use Rattle.bulk_descriptor.specs.declared.slot_state.SlotState.TheVariants.{Empty, Bad, Mismatched, Message}
use Rattle.bulk_descriptor.proofs.FittingLemmas.{fits_parts, each_fits}
use Rattle.pad_stream.specs.ExclusiveOr.{exclusive_or}
use Rattle.bulk_descriptor.specs.Descriptor.{Description, hidden_under, fits}
use Rattle.bulk_descriptor.specs.SlotState.{first_unfit, joined_state, unless_bad, slot_state, slot_states, pads_for, joined_pads, AreSlots}

-- ---- the least number of a range that passes
find_cases : (p : ℕ → Bool) (x : ℕ) (xs : List ℕ) (b : Bool) → p x ≡ b → cond b (Some x) (find p xs) ≡ None → (p x ≡ false)
    × (find p xs ≡ None)
find_cases p x xs true is e = cc
find_cases p x xs false is e = (is, e)

find_first : (p : ℕ → Bool) (a n i m : ℕ) → i < n → a + i ≡ m → find p (range_with_len a i) ≡ None → p m ≡ true
    → find p (range_with_len a n) ≡ Some m
find_first p a zero i m h at none passes = absurd (omega arith)
find_first p a (suc n) zero m h at none passes =
    let here : a ≡ m = omega arith in
    cond-true (p a) (Some a) (find p (range_with_len (a + 1) n)) (ap p here ∙ passes) ∙ ap (λ (k : ℕ). Some k) here
find_first p a (suc n) (suc i) m h at none passes =
    let parts = find_cases p a (range_with_len (a + 1) i) (p a) refl none in
    cond-false (p a) (Some a) (find p (range_with_len (a + 1) n)) parts.0
    ∙ find_first p (a + 1) n i m (omega arith) (omega arith) parts.1 passes

find_more : (p : ℕ → Bool) (a i m : ℕ) → a + i ≡ m → find p (range_with_len a i) ≡ None → p m ≡ false
    → find p (range_with_len a (i + 1)) ≡ None
find_more p a zero m at none fails =
    let here : a ≡ m = omega arith in
    cond-false (p a) (Some a) None (ap p here ∙ fails)
find_more p a (suc i) m at none fails =
    let parts = find_cases p a (range_with_len (a + 1) i) (p a) refl none in
    let next : suc i + 1 ≡ suc (i + 1) = omega arith in
    ap (λ (k : ℕ). find p (range_with_len a k)) next ∙ cond-false (p a) (Some a) (find p (range_with_len (a + 1) (i + 1))) parts.0
    ∙ find_more p (a + 1) i m (omega arith) parts.1 fails

-- ---- the members whose pads were looked at
abbrev pub is_unfit : Description → List (List ℕ) → ℕ → Bool
is_unfit d pads member = not (fits d member (get_or pads (member - 1) []))

-- what is found at one place
unfit_here : (fits : Bool) (r : Option ℕ) (place member : ℕ) → r ≡ cond fits None (Some place) → r ≡ Some member → (fits ≡ false)
    × (member ≡ place)
unfit_here true r place member told some = absurd (cc)
unfit_here false r place member told some = (refl, cc)

fits_here : (fits : Bool) (r : Option ℕ) (place : ℕ) → r ≡ cond fits None (Some place) → r ≡ None → fits ≡ true
fits_here true r place told none = refl
fits_here false r place told none = absurd (cc)

pub unfit_found : (d : Description) (pads : List (List ℕ)) (i member : ℕ) (r : Option ℕ) → i < length pads
    → find (is_unfit d pads) (range_with_len 1 i) ≡ None
    → r ≡ cond (fits d (i + 1) (get_or pads i [])) None (Some (i + 1)) → r ≡ Some member → Some member ≡ first_unfit d pads
unfolding first_unfit
unfit_found d pads i member r h none told some =
    let here = unfit_here (fits d (i + 1) (get_or pads i [])) r (i + 1) member told some in
    let place : i + 1 - 1 ≡ i = omega arith in
    let fails : fits d (i + 1) (get_or pads (i + 1 - 1) []) ≡ false = ap (λ (k : ℕ). fits d (i + 1) (get_or pads k [])) place ∙ here.0 in
    ap (λ (m : ℕ). Some m) here.1
    ∙ sym (find_first (is_unfit d pads) 1 (length pads) i (i + 1) h (omega arith) none
    (not_from_false (fits d (i + 1) (get_or pads (i + 1 - 1) [])) fails))

pub fit_so_far : (d : Description) (pads : List (List ℕ)) (i : ℕ) (r : Option ℕ) → find (is_unfit d pads) (range_with_len 1 i) ≡ None
    → r ≡ cond (fits d (i + 1) (get_or pads i [])) None (Some (i + 1)) → r ≡ None → find (is_unfit d pads) (range_with_len 1 (i + 1)) ≡ None
fit_so_far d pads i r none told fits_all =
    let place : i + 1 - 1 ≡ i = omega arith in
    let passes : fits d (i + 1) (get_or pads (i + 1 - 1) []) ≡ true =
    ap (λ (k : ℕ). fits d (i + 1) (get_or pads k [])) place ∙ fits_here (fits d (i + 1) (get_or pads i [])) r (i + 1) told fits_all in
    find_more (is_unfit d pads) 1 i (i + 1) (omega arith) none (ap not passes)

pub all_fit : (d : Description) (pads : List (List ℕ)) (i : ℕ) → i ≡ length pads → find (is_unfit d pads) (range_with_len 1 i) ≡ None
    → None ≡ first_unfit d pads
unfolding first_unfit
all_fit d pads i end none = sym (ap (λ (k : ℕ). find (is_unfit d pads) (range_with_len 1 k)) (sym end) ∙ none)

-- ---- the pads for a slot
pub pad_at : (table : List (List (List ℕ))) (slot i : ℕ) (row : List (List ℕ)) (pad : List ℕ) → i < length table → row ≡ get_or table i []
    → pad ≡ get_or row slot [] → pad ≡ get_or (pads_for table slot) i []
pad_at table slot i row pad h is-row is-pad =
    is-pad ∙ ap (λ (row : List (List ℕ)). get_or row slot []) is-row
    ∙ sym (get_or-map (λ (row : List (List ℕ)). get_or row slot []) table i [] [] h)

pub length-pads_for : (table : List (List (List ℕ))) (slot : ℕ) → length (pads_for table slot) ≡ length table
length-pads_for table slot = length-map table (λ (row : List (List ℕ)). get_or row slot [])

-- the rows that were joined, and one more
pub joined-more : (bytes now pad : List ℕ) (rows : List (List (List ℕ))) (slot i : ℕ) → i < length rows
    → now ≡ hidden_under bytes (pads_for (take i rows) slot) → pad ≡ get_or (pads_for rows slot) i []
    → exclusive_or now pad ≡ hidden_under bytes (pads_for (take (i + 1) rows) slot)
joined-more bytes now pad rows slot i h is-now is-pad =
    let f : List (List ℕ) → List ℕ = λ row. get_or row slot [] in
    let more : take (i + 1) rows ≡ take i rows ++ get_or rows i [] ∷ [] = take_more rows i [] h in
    let there : get_or (map f rows) i [] ≡ f (get_or rows i []) = get_or-map f rows i [] [] h in
    let whole : pads_for (take (i + 1) rows) slot ≡ pads_for (take i rows) slot ++ f (get_or rows i []) ∷ [] = ap (map f) more
    ∙ map-append f (take i rows) (get_or rows i [] ∷ []) in
    ap (λ (x : List ℕ). exclusive_or x pad) is-now
    ∙ ap (exclusive_or (hidden_under bytes (pads_for (take i rows) slot))) (is-pad ∙ there)
    ∙ sym (ap (hidden_under bytes) whole ∙ fold-append exclusive_or bytes (pads_for (take i rows) slot) (f (get_or rows i []) ∷ []))

-- a pad of a row of a table, as the code reads it
pub pad_of_row : (table rows : List (List (List ℕ))) (slot i : ℕ) (row held : List (List ℕ)) (item pad : List ℕ) → i < length table
    → rows ≡ table → row ≡ get_or rows i row → held ≡ row
    → All (λ row. slot < length row) table → item ≡ get_or held slot item → pad ≡ item → pad ≡ get_or (pads_for table slot) i []
pad_of_row table rows slot i row held item pad h same is-row is-held wide is-item is-pad =
    let there : row ≡ get_or table i [] = get_or_read table i row h (is-row ∙ ap (λ (l : List (List (List ℕ))). get_or l i row) same) [] in
    let room : slot < length (get_or table i []) = All-get_or (λ row. slot < length row) table i [] h wide in
    let within : slot < length row = omega (arith, ap (λ (l : List (List ℕ)). length l) there) in
    let in_row : item ≡ get_or row slot [] = get_or_read row slot item within
    (is-item ∙ ap (λ (l : List (List ℕ)). get_or l slot item) is-held) [] in
    pad_at table slot i row pad h there (is-pad ∙ in_row)

-- it is as long as every pad for the slot
pub size_of_row : (count : ℕ) (table : List (List (List ℕ))) (slot i : ℕ) (pad : List ℕ) → i < length table
    → All (λ pad. length pad ≡ count) (pads_for table slot) → pad ≡ get_or (pads_for table slot) i [] → length pad ≡ count
size_of_row count table slot i pad h sizes is =
    ap (λ (x : List ℕ). length x) is ∙ All-get_or (λ pad. length pad ≡ count) (pads_for table slot) i []
    (omega (arith, length-pads_for table slot)) sizes

-- ---- one slot
pub state_without : (d : Option Description) (pads : List (List ℕ)) → d ≡ None → Empty ≡ slot_state d pads
unfolding slot_state
state_without d pads e = sym (ap (λ (d : Option Description). slot_state d pads) e)

pub state_bad : (o : Option Description) (d : Description) (pads : List (List ℕ)) (r : Option ℕ) (first : ℕ) → o ≡ Some d
    → r ≡ first_unfit d pads → r ≡ Some first → Bad first ≡ slot_state o pads
unfolding slot_state
state_bad o d pads r first some told found =
    let there : first_unfit d pads ≡ Some first = sym told ∙ found in
    sym (ap (λ (o : Option Description). slot_state o pads) some
    ∙ ap (λ (f : Option ℕ). unless_bad f (joined_state d (joined_pads pads))) there)

pub state_joined : (o : Option Description) (d : Description) (pads : List (List ℕ)) (r : Option ℕ) (message : List ℕ) (b : Bool)
    (state : SlotState) → o ≡ Some d → r ≡ first_unfit d pads → r ≡ None → message ≡ joined_pads pads
    → b ≡ bytes_eq (hash_of OfMessage (message ∷ [])) d.message_hash → state ≡ cond b (Message message) Mismatched
    → state ≡ slot_state o pads
unfolding slot_state joined_state
state_joined o d pads r message b state some told none joined test is =
    let there : first_unfit d pads ≡ None = sym told ∙ none in
    is
    ∙ ap (λ (b : Bool). cond b (Message message) Mismatched) test
    ∙ ap (λ (m : List ℕ). joined_state d m) joined
    ∙ sym (ap (λ (o : Option Description). slot_state o pads) some
    ∙ ap (λ (f : Option ℕ). unless_bad f (joined_state d (joined_pads pads))) there)

-- pads that all fit have the length that the descriptor tells
pub sizes_from_fit : (d : Description) (pads : List (List ℕ)) (r : Option ℕ) → r ≡ first_unfit d pads → r ≡ None
    → All (λ pad. length pad ≡ d.length) pads
sizes_from_fit d pads r told none =
    All-from_get_or (λ pad. length pad ≡ d.length) pads [] (λ k h.
    (fits_parts d (k + 1) (get_or pads k []) (each_fits d pads k (sym told ∙ none) h)).0)

-- ---- the joined pads
pub head_and_tail : (table : List (List (List ℕ))) (slot : ℕ) → 0 < length table
    → pads_for table slot ≡ get_or (get_or table 0 []) slot [] ∷ pads_for (drop 1 table) slot
head_and_tail [] slot h = absurd (omega arith)
head_and_tail (row ∷ table) slot h = refl

pub sizes_of_tail : (count : ℕ) (table : List (List (List ℕ))) (slot : ℕ) → All (λ pad. length pad ≡ count) (pads_for table slot)
    → All (λ pad. length pad ≡ count) (pads_for (drop 1 table) slot)
sizes_of_tail count table slot sizes =
    subst (λ (l : List (List ℕ)). All (λ pad. length pad ≡ count) l) (drop-map (λ (row : List (List ℕ)). get_or row slot []) 1 table)
    (All-drop (λ pad. length pad ≡ count) 1 (pads_for table slot) sizes)

pub joined_from : (table : List (List (List ℕ))) (slot : ℕ) (first : List ℕ) → 0 < length table → first ≡ get_or (pads_for table slot) 0 []
    → hidden_under first (pads_for (drop 1 table) slot) ≡ joined_pads (pads_for table slot)
unfolding joined_pads
joined_from [] slot first h is = absurd (omega arith)
joined_from (row ∷ table) slot first h is = ap (λ (x : List ℕ). hidden_under x (pads_for table slot)) is

-- ---- all slots
pub slot_states-more : (descriptors : List (Option Description)) (table : List (List (List ℕ))) (states : List SlotState)
    (state : SlotState) (i : ℕ) (d : Option Description) → i < length descriptors
    → states ≡ take i (slot_states descriptors table) → d ≡ get_or descriptors i None → state ≡ slot_state d (pads_for table i) → states
    ++ state ∷ [] ≡ take (i + 1) (slot_states descriptors table)
slot_states-more descriptors table states state i d h so_far is-d is =
    let f : ℕ × Option Description → SlotState = λ p. slot_state p.1 (pads_for table p.0) in
    let numbered = enumerate_from 0 descriptors in
    let long : length numbered ≡ length descriptors = length-enumerate_from 0 descriptors in
    let whole : length (map f numbered) ≡ length descriptors = length-map numbered f ∙ long in
    let there : get_or (map f numbered) i Empty ≡ f (get_or numbered i (0, None)) = get_or-map f numbered i (0, None) Empty (omega arith) in
    let entry : get_or numbered i (0, None) ≡ (0 + i, get_or descriptors i None) = get_or-enumerate_from 0 descriptors i (0, None) h in
    let place : 0 + i ≡ i = omega arith in
    let here : get_or (map f numbered) i Empty ≡ slot_state (get_or descriptors i None) (pads_for table i) =
    there ∙ ap f entry ∙ ap (λ (k : ℕ). slot_state (get_or descriptors i None) (pads_for table k)) place in
    let last : state ≡ get_or (map f numbered) i Empty = is ∙ ap (λ (d : Option Description). slot_state d (pads_for table i)) is-d
    ∙ sym here in
    ap (λ (l : List SlotState). l ++ state ∷ []) so_far
    ∙ ap (λ (x : SlotState). take i (map f numbered) ++ x ∷ []) last
    ∙ sym (take_more (map f numbered) i Empty (omega arith))

-- joined pads are no longer than each of them
pub length-joined_pads : (count : ℕ) (pads : List (List ℕ)) → All (λ pad. length pad ≡ count) pads → length (joined_pads pads) ≤ count
unfolding joined_pads
length-joined_pads count [] sizes = omega arith
length-joined_pads count (pad ∷ pads) sizes =
    let parts = recursion_from_All (λ pad. length pad ≡ count) (pad ∷ pads) sizes in
    omega (arith, length-hidden_under count pad pads parts.0 parts.1)

-- ---- an entry of the list of descriptors
pub entry_read : (items held : List (Option Descriptor)) (i : ℕ) (x : Option Descriptor) → held ≡ items → i < length items
    → x ≡ get_or held i x
    → option_map description_of x ≡ get_or (map (option_map description_of) items) i None
entry_read items held i x same h is =
    let there : x ≡ get_or items i x = is ∙ ap (λ (l : List (Option Descriptor)). get_or l i x) same in
    ap (option_map description_of) there ∙ sym (get_or-map (option_map description_of) items i x None h)

pub entry_members : (descriptors : List (Option Description)) (table : List (List (List ℕ))) (i : ℕ) (o : Option Description)
    → AreSlots descriptors table → i < length descriptors → o ≡ get_or descriptors i None
    → IfSome o (λ d. length d.pad_hashes ≡ length table)
entry_members descriptors table i o are h is =
    rw (is, are.members) (All-get_or (λ slot. IfSome slot (λ (d : Description). length d.pad_hashes ≡ length descriptors)) descriptors i
    None h are.hashes)

pub length-slot_states : (descriptors : List (Option Description)) (table : List (List (List ℕ)))
    → length (slot_states descriptors table) ≡ length descriptors
length-slot_states descriptors table = length-map (enumerate_from 0 descriptors)
    (λ (p : ℕ × Option Description). slot_state p.1 (pads_for table p.0)) ∙ length-enumerate_from 0 descriptors
