-- Steps of the code, over plain values.
use Rattle.std.proofs.Common.{◌≡◌, ℕ, zero, suc, ◌+◌, ◌-◌, ◌<◌, ◌≤◌, Bool, true, false, not, ◌&&◌, ◌==◌, nat_eq, List}
use Rattle.std.proofs.Common.{[], ◌∷◌, ◌++◌, take, drop, length, map, get_or, refl, sym, ap, subst, ◌∙◌, arith}
use Rattle.std.proofs.Common.{add-one, append_assoc, append-nil, Option, Some, None, Result, Ok, Err}
use Rattle.std.specs.Prelude.{OnErr, insert, remove, unwrap_or}
use Rattle.std.specs.Option.{option_and_then}
use Rattle.std.specs.List.{concat, list_all}
use Rattle.std.specs.Str.{bytes_eq}
use Rattle.std.proofs.lemmas.Bool.{eq-eqb, ne_eqb, cond-true, cond-false, not-true, not-false}
use Rattle.std.proofs.lemmas.List.{take_more, get_or_read, map-append, length-map, drop-drop}
use Rattle.std.proofs.lemmas.List.Edits.{length-remove}
use Rattle.std.specs.List.{take-map, drop-map}
use Rattle.std.proofs.lemmas.List.Folds.{concat-append}
use Rattle.std.proofs.lemmas.List.Sums.{fold-append}
use Rattle.ring_encrypt.specs.Capsule.{capsule_of}
use Rattle.ring_encrypt.specs.Opening.{opened}
use Rattle.ring_encrypt.specs.Reduced.{is_reduced}
use Rattle.pad_stream.specs.Stream.{pad_of}
use Rattle.pad_stream.specs.ExclusiveOr.{exclusive_or}
use Rattle.wire_core.specs.declared.tag.Tag.TheVariants.{Message as OfMessage}
use Rattle.wire_core.specs.Hash.{hash_of}
use Rattle.bulk_descriptor.specs.Laws.{CanMake}
use Rattle.bulk_descriptor.specs.Descriptor.{Description, IsDescriptor, descriptor_read, own_pad, made_pads}
use Rattle.bulk_descriptor.specs.Descriptor.{made_descriptor, pad_row, parts_of, hash_of_pad, pads_of, hidden_under}
use Rattle.bulk_descriptor.specs.Descriptor.{sealed_seeds, pad_hash_for, capsule_for, fits, pad_if_hashed, pad_found}
use Rattle.bulk_descriptor.proofs.PartLemmas.{parts_of-next, parts_of-none}
use Rattle.bulk_descriptor.proofs.MakingLemmas.{pads_of-append, length-pads_of}
use Rattle.bulk_descriptor.proofs.SpellingLemmas.{same_description}
use Rattle.bulk_descriptor.proofs.FittingLemmas.{made_is_of_grammar}

pub on_err : {A E : Type 0} (r : Result A E) (P : Type 0) → P → OnErr r P
on_err (Ok x) P p = tt
on_err (Err e) P p = p

-- ---- a pad that fits
pub fits_as_told : (d : Description) (member : ℕ) (pad hash : List ℕ) (r : Bool) → length pad ≡ d.length
    → r ≡ bytes_eq (hash_of_pad pad) hash → hash ≡ pad_hash_for d member → r ≡ fits d member pad
unfolding fits
fits_as_told d member pad hash r long told same =
    let long' : (length pad == d.length) ≡ true = eq-eqb (length pad) d.length long in
    told ∙ ap (bytes_eq (hash_of_pad pad)) same ∙ sym (ap (λ (b : Bool). b && bytes_eq (hash_of_pad pad) (pad_hash_for d member)) long')

pub fits_no_length : (d : Description) (member : ℕ) (pad : List ℕ) → (length pad ≡ d.length → ⊥)
    → nat_eq (length pad) d.length ≡ fits d member pad
unfolding fits
fits_no_length d member pad other =
    let e : (length pad == d.length) ≡ false = ne_eqb (length pad) d.length other in
    e ∙ sym (ap (λ (b : Bool). b && bytes_eq (hash_of_pad pad) (pad_hash_for d member)) e)

-- ---- the pad of a member
pub closed_has_none : (d : Description) (member : ℕ) (seed capsule : List ℕ) (o : Option (List ℕ))
    → capsule ≡ capsule_for d member → o ≡ opened seed capsule → o ≡ None → None ≡ pad_found d member seed
unfolding pad_found
closed_has_none d member seed capsule o same told none =
    ap (option_and_then (pad_if_hashed d member)) (sym none ∙ told ∙ ap (opened seed) same)

found_by_hash : (d : Description) (member : ℕ) (seed capsule s : List ℕ) (o : Option (List ℕ))
    → capsule ≡ capsule_for d member → o ≡ opened seed capsule → o ≡ Some s
    → pad_if_hashed d member s ≡ pad_found d member seed
unfolding pad_found
found_by_hash d member seed capsule s o same told some =
    ap (option_and_then (pad_if_hashed d member)) (sym some ∙ told ∙ ap (opened seed) same)

pub unlike_has_none : (d : Description) (member : ℕ) (seed capsule s hash own : List ℕ) (o : Option (List ℕ)) (r : Bool)
    → capsule ≡ capsule_for d member → o ≡ opened seed capsule → o ≡ Some s
    → hash ≡ hash_of_pad (pad_of s d.length) → own ≡ pad_hash_for d member → r ≡ not (bytes_eq hash own) → r ≡ true
    → None ≡ pad_found d member seed
unlike_has_none d member seed capsule s hash own o r same told some is-hash is-own test holds =
    let apart : bytes_eq hash own ≡ false = not-true (bytes_eq hash own) (sym test ∙ holds) in
    let there : bytes_eq (hash_of_pad (pad_of s d.length)) (pad_hash_for d member) ≡ false = rw (is-hash, is-own) at apart in
    sym (cond-false (bytes_eq (hash_of_pad (pad_of s d.length)) (pad_hash_for d member)) (Some (pad_of s d.length)) None there)
    ∙ found_by_hash d member seed capsule s o same told some

pub like_has_pad : (d : Description) (member : ℕ) (seed capsule s hash own : List ℕ) (o : Option (List ℕ)) (r : Bool)
    → capsule ≡ capsule_for d member → o ≡ opened seed capsule → o ≡ Some s
    → hash ≡ hash_of_pad (pad_of s d.length) → own ≡ pad_hash_for d member → r ≡ not (bytes_eq hash own) → r ≡ false
    → Some (pad_of s d.length) ≡ pad_found d member seed
like_has_pad d member seed capsule s hash own o r same told some is-hash is-own test fails =
    let alike : bytes_eq hash own ≡ true = not-false (bytes_eq hash own) (sym test ∙ fails) in
    let there : bytes_eq (hash_of_pad (pad_of s d.length)) (pad_hash_for d member) ≡ true = rw (is-hash, is-own) at alike in
    sym (cond-true (bytes_eq (hash_of_pad (pad_of s d.length)) (pad_hash_for d member)) (Some (pad_of s d.length)) None there)
    ∙ found_by_hash d member seed capsule s o same told some

-- an item of a list that is held elsewhere
pub item_read : (xs held : List (List ℕ)) (k : ℕ) (x : List ℕ) → held ≡ xs → k < length xs → x ≡ get_or held k x → x ≡ get_or xs k []
item_read xs held k x same h e = get_or_read xs k x h (e ∙ ap (λ (l : List (List ℕ)). get_or l k x) same) []

-- ---- one more
pub concat-more : (xs : List (List ℕ)) (out x : List ℕ) (k : ℕ) → k < length xs → x ≡ get_or xs k [] → (out ++ concat (take k xs))
    ++ x ≡ out ++ concat (take (k + 1) xs)
concat-more xs out x k h e =
    let more : take (k + 1) xs ≡ take k xs ++ get_or xs k [] ∷ [] = take_more xs k [] h in
    rw (more, concat-append (take k xs) (get_or xs k [] ∷ []), append-nil (get_or xs k []), ← e, append_assoc out (concat (take k xs)) x)
    refl

pub pads_of-more : (seeds : List (List ℕ)) (count k : ℕ) → k < length seeds
    → pads_of (take (k + 1) seeds) count ≡ pads_of (take k seeds) count ++ pad_of (get_or seeds k []) count ∷ []
unfolding pads_of
pads_of-more seeds count k h =
    let more : take (k + 1) seeds ≡ take k seeds ++ get_or seeds k [] ∷ [] = take_more seeds k [] h in
    rw (more, map-append (λ seed. pad_of seed count) (take k seeds) (get_or seeds k [] ∷ [])) refl

pub hidden_under-more : (bytes now pad : List ℕ) (seeds : List (List ℕ)) (count k : ℕ) → k < length seeds
    → now ≡ hidden_under bytes (pads_of (take k seeds) count) → pad ≡ pad_of (get_or seeds k []) count
    → exclusive_or now pad ≡ hidden_under bytes (pads_of (take (k + 1) seeds) count)
hidden_under-more bytes now pad seeds count k h is-now is-pad =
    rw (
      pads_of-more seeds count k h,
      fold-append exclusive_or bytes (pads_of (take k seeds) count) (pad_of (get_or seeds k []) count ∷ []),
      is-now,
      is-pad,
    ) refl

pub hashes-more : (before now : List (List ℕ)) (hash pad : List ℕ) (seeds : List (List ℕ)) (count k : ℕ)
    → k < length seeds → now ≡ before ++ map hash_of_pad (pads_of (take k seeds) count)
    → pad ≡ pad_of (get_or seeds k []) count
    → hash ≡ hash_of_pad pad → now ++ hash ∷ [] ≡ before ++ map hash_of_pad (pads_of (take (k + 1) seeds) count)
hashes-more before now hash pad seeds count k h is-now is-pad is-hash =
    rw (
      pads_of-more seeds count k h,
      map-append hash_of_pad (pads_of (take k seeds) count) (pad_of (get_or seeds k []) count ∷ []),
      is-now,
      is-hash,
      is-pad,
    )
    (append_assoc before (map hash_of_pad (pads_of (take k seeds) count)) (hash_of_pad (pad_of (get_or seeds k []) count) ∷ []))

sealed_at : (keys seeds : List (List ℕ)) (k : ℕ) → k < length keys → k < length seeds
    → sealed_seeds (take (suc k) keys) (take (suc k) seeds) ≡ sealed_seeds (take k keys) (take k seeds)
    ++ capsule_of (get_or keys k []) (get_or seeds k []) ∷ []
unfolding sealed_seeds
sealed_at [] seeds k h h' = absurd (omega arith)
sealed_at (x ∷ keys) [] k h h' = absurd (omega arith)
sealed_at (x ∷ keys) (y ∷ seeds) zero h h' = refl
sealed_at (x ∷ keys) (y ∷ seeds) (suc k) h h' = ap (λ (l : List (List ℕ)). capsule_of x y ∷ l)
    (sealed_at keys seeds k (omega arith) (omega arith))

pub sealed_seeds-more : (keys seeds : List (List ℕ)) (key seed capsule : List ℕ) (now : List (List ℕ)) (k : ℕ)
    → k < length keys → k < length seeds → key ≡ get_or keys k [] → seed ≡ get_or seeds k []
    → capsule ≡ capsule_of key seed → now ≡ sealed_seeds (take k keys) (take k seeds) → now
    ++ capsule ∷ [] ≡ sealed_seeds (take (k + 1) keys) (take (k + 1) seeds)
sealed_seeds-more keys seeds key seed capsule now k h h' is-key is-seed is is-now =
    rw (add-one, sealed_at keys seeds k h h', is-now, is, is-key, is-seed) refl

pub sealed_seeds-none : (keys seeds : List (List ℕ)) → sealed_seeds (take 0 keys) (take 0 seeds) ≡ []
unfolding sealed_seeds
sealed_seeds-none keys seeds = refl

-- ---- parts, one after the other
pub parts-more : (size count i : ℕ) (bytes rest front back : List ℕ) (now : List (List ℕ)) → i < count
    → now ++ parts_of size (count - i) rest ≡ parts_of size count bytes → front ≡ take size rest
    → back ≡ drop size rest
    → (now ++ front ∷ []) ++ parts_of size (count - (i + 1)) back ≡ parts_of size count bytes
parts-more size count i bytes rest front back now h so_far is-front is-back =
    let next : parts_of size (count - i) rest ≡ take size rest ∷ parts_of size (count - (i + 1)) (drop size rest) =
    parts_of-next size (count - i) (count - (i + 1)) rest (omega arith) in
    rw (is-front, is-back, append_assoc now (take size rest ∷ []) (parts_of size (count - (i + 1)) (drop size rest)), ← next) so_far

pub parts-done : (size count i : ℕ) (bytes rest : List ℕ) (now : List (List ℕ)) → count ≤ i
    → now ++ parts_of size (count - i) rest ≡ parts_of size count bytes → now ≡ parts_of size count bytes
parts-done size count i bytes rest now h so_far =
    let none : count - i ≡ 0 = omega arith in
    let end : parts_of size (count - i) rest ≡ [] = ap (λ (n : ℕ). parts_of size n rest) none ∙ parts_of-none size rest in
    sym (append-nil now) ∙ ap (λ (l : List (List ℕ)). now ++ l) (sym end) ∙ so_far

-- whether all parts are reduced, from those that are left
pub reduced-more : (count i : ℕ) (rest front back : List ℕ) (r : Bool) → i < count → front ≡ take 2240 rest → back ≡ drop 2240 rest
    → r ≡ is_reduced front
    → list_all is_reduced (parts_of 2240 (count - i) rest) ≡ (r && list_all is_reduced (parts_of 2240 (count - (i + 1)) back))
reduced-more count i rest front back r h is-front is-back told =
    let next : parts_of 2240 (count - i) rest ≡ take 2240 rest ∷ parts_of 2240 (count - (i + 1)) (drop 2240 rest) =
    parts_of-next 2240 (count - i) (count - (i + 1)) rest (omega arith) in
    rw (next, told, is-front, is-back) refl

pub reduced-done : (count i : ℕ) (rest : List ℕ) → count ≤ i → list_all is_reduced (parts_of 2240 (count - i) rest) ≡ true
reduced-done count i rest h =
    let none : count - i ≡ 0 = omega arith in
    rw (none, parts_of-none 2240 rest) refl

pub reduced-stops : (count i : ℕ) (bytes rest front : List ℕ) (r : Bool) → i < count
    → list_all is_reduced (parts_of 2240 (count - i) rest) ≡ list_all is_reduced (parts_of 2240 count bytes)
    → front ≡ take 2240 rest
    → r ≡ is_reduced front → r ≡ false → false ≡ list_all is_reduced (parts_of 2240 count bytes)
reduced-stops count i bytes rest front r h so_far is-front told bad =
    let behind = list_all is_reduced (parts_of 2240 (count - (i + 1)) (drop 2240 rest)) in
    sym (ap (λ (b : Bool). b && behind) bad) ∙ sym (reduced-more count i rest front (drop 2240 rest) r h is-front refl told) ∙ so_far

pub reduced-goes_on : (count i : ℕ) (bytes rest front back : List ℕ) (r : Bool) → i < count
    → list_all is_reduced (parts_of 2240 (count - i) rest) ≡ list_all is_reduced (parts_of 2240 count bytes)
    → front ≡ take 2240 rest
    → back ≡ drop 2240 rest → r ≡ is_reduced front → r ≡ true → list_all is_reduced (parts_of 2240 (count - (i + 1)) back) ≡ list_all
    is_reduced (parts_of 2240 count bytes)
reduced-goes_on count i bytes rest front back r h so_far is-front is-back told good =
    let behind = list_all is_reduced (parts_of 2240 (count - (i + 1)) back) in
    sym (ap (λ (b : Bool). b && behind) good) ∙ sym (reduced-more count i rest front back r h is-front is-back told) ∙ so_far

-- ---- the parts of what is made
pub hidden_in_two : (bytes first second : List ℕ) (seeds before after : List (List ℕ)) (place : ℕ)
    → before ≡ take place seeds → after ≡ drop (suc place) seeds → length first ≡ length bytes
    → first ≡ hidden_under bytes (pads_of before (length bytes))
    → second ≡ hidden_under first (pads_of after (length first))
    → second ≡ hidden_under bytes (pads_of (remove seeds place) (length bytes))
hidden_in_two bytes first second seeds before after place is-before is-after same is-first is-second =
    let count = length bytes in
    let now : second ≡ hidden_under (hidden_under bytes (pads_of (take place seeds) count)) (pads_of (drop (suc place) seeds) count) =
    rw (same, is-after, is-first, is-before) at is-second in
    now
    ∙ sym (ap (hidden_under bytes) (pads_of-append (take place seeds) (drop (suc place) seeds) count)
    ∙ fold-append exclusive_or bytes (pads_of (take place seeds) count) (pads_of (drop (suc place) seeds) count))

pub hashes_in_two : (old first second : List (List ℕ)) (seeds before after : List (List ℕ)) (place count count' : ℕ)
    → before ≡ take place seeds → after ≡ drop (suc place) seeds → count' ≡ count
    → first ≡ old ++ map hash_of_pad (pads_of before count) → second ≡ first ++ map hash_of_pad (pads_of after count')
    → second ≡ old ++ map hash_of_pad (pads_of (remove seeds place) count)
hashes_in_two old first second seeds before after place count count' is-before is-after same is-first is-second =
    let front = pads_of (take place seeds) count in
    let back = pads_of (drop (suc place) seeds) count in
    let now : second ≡ (old ++ map hash_of_pad front) ++ map hash_of_pad back = rw (same, is-after, is-first, is-before) at is-second in
    let joined : map hash_of_pad (pads_of (remove seeds place) count) ≡ map hash_of_pad front ++ map hash_of_pad back =
    ap (map hash_of_pad) (pads_of-append (take place seeds) (drop (suc place) seeds) count)
    ∙ map-append hash_of_pad front back in
    now ∙ append_assoc old (map hash_of_pad front) (map hash_of_pad back) ∙ ap (λ (l : List (List ℕ)). old ++ l) (sym joined)

pub behind : (seeds rest after : List (List ℕ)) (place : ℕ) → rest ≡ drop place seeds → after ≡ drop 1 rest → after ≡ drop (suc place) seeds
behind seeds rest after place is-rest is-after = is-after ∙ ap (drop 1) is-rest ∙ drop-drop 1 place seeds
    ∙ ap (λ (n : ℕ). drop n seeds) (add-one place)

pub own_pad_is : (seeds : List (List ℕ)) (place : ℕ) (message held now : List ℕ) → held ≡ message
    → now ≡ hidden_under held (pads_of (remove seeds place) (length held)) → now ≡ own_pad seeds (place + 1) message
unfolding own_pad
own_pad_is seeds place message held now same is =
    let there : place + 1 - 1 ≡ place = omega arith in
    is
    ∙ ap (λ (held : List ℕ). hidden_under held (pads_of (remove seeds place) (length held))) same
    ∙ ap (λ (k : ℕ). hidden_under message (pads_of (remove seeds k) (length message))) (sym there)

pub length_other_hashes : (seeds hashes made : List (List ℕ)) (place count : ℕ) → place < length seeds → hashes ≡ []
    → made ≡ hashes ++ map hash_of_pad (pads_of (remove seeds place) count) → place ≤ length made
length_other_hashes seeds hashes made place count h none is =
    let e : made ≡ map hash_of_pad (pads_of (remove seeds place) count) = is
    ∙ ap (λ (l : List (List ℕ)). l ++ map hash_of_pad (pads_of (remove seeds place) count)) none in
    let long : length made ≡ length (pads_of (remove seeds place) count) = ap (λ (l : List (List ℕ)). length l) e
    ∙ length-map (pads_of (remove seeds place) count) hash_of_pad in
    omega (arith, length-pads_of (remove seeds place) count, length-remove seeds place h)

map-insert : (f : List ℕ → List ℕ) (xs : List (List ℕ)) (i : ℕ) (x : List ℕ) → insert (map f xs) i (f x) ≡ map f (insert xs i x)
map-insert f xs i x =
    ap (λ (l : List (List ℕ)). l ++ f x ∷ drop i (map f xs)) (take-map f i xs)
    ∙ ap (λ (l : List (List ℕ)). map f (take i xs) ++ f x ∷ l) (drop-map f i xs)
    ∙ sym (map-append f (take i xs) (x ∷ drop i xs))

pub hashes_are : (seeds hashes made now : List (List ℕ)) (place count : ℕ) (message own hash : List ℕ)
    → count ≡ length message → hashes ≡ [] → made ≡ hashes ++ map hash_of_pad (pads_of (remove seeds place) count)
    → own ≡ own_pad seeds (place + 1) message → hash ≡ hash_of_pad own → now ≡ insert made place hash
    → now ≡ map hash_of_pad (made_pads seeds (place + 1) message)
unfolding made_pads
hashes_are seeds hashes made now place count message own hash is-count none is-made is-own is-hash is-now =
    let there : place + 1 - 1 ≡ place = omega arith in
    let others = pads_of (remove seeds place) (length message) in
    let e : made ≡ map hash_of_pad others =
    is-made
    ∙ ap (λ (l : List (List ℕ)). l ++ map hash_of_pad (pads_of (remove seeds place) count)) none
    ∙ ap (λ (k : ℕ). map hash_of_pad (pads_of (remove seeds place) k)) is-count in
    let mine : hash ≡ hash_of_pad (own_pad seeds (place + 1) message) = is-hash ∙ ap hash_of_pad is-own in
    is-now
    ∙ ap (λ (l : List (List ℕ)). insert l place hash) e
    ∙ ap (insert (map hash_of_pad others) place) mine
    ∙ map-insert hash_of_pad others place (own_pad seeds (place + 1) message)
    ∙ ap (λ (k : ℕ). map hash_of_pad (insert (pads_of (remove seeds k) (length message)) k (own_pad seeds (place + 1) message))) (sym there)

pub made_by_parts : (keys seeds slice hashes capsules : List (List ℕ)) (member : ℕ) (message hash : List ℕ) → 1 ≤ member → slice ≡ seeds
    → hash ≡ hash_of OfMessage (message ∷ [])
    → hashes ≡ map hash_of_pad (made_pads slice (member - 1 + 1) message) → capsules ≡ sealed_seeds keys seeds
    → record { length = length message; message_hash = hash; pad_hashes = hashes; capsules = capsules } ≡ made_descriptor keys seeds member
    message
unfolding made_descriptor
made_by_parts keys seeds slice hashes capsules member message hash first same is-hash is-hashes is-capsules =
    let next : member - 1 + 1 ≡ member = omega arith in
    let whole : hashes ≡ map hash_of_pad (made_pads seeds member message) =
    is-hashes
    ∙ ap (λ (s : List (List ℕ)). map hash_of_pad (made_pads s (member - 1 + 1) message)) same
    ∙ ap (λ (k : ℕ). map hash_of_pad (made_pads seeds k message)) next in
    same_description (record { length = length message; message_hash = hash; pad_hashes = hashes; capsules = capsules })
    (made_descriptor keys seeds member message) refl is-hash whole is-capsules

pub form_of_made : (n : ℕ) (keys seeds : List (List ℕ)) (member : ℕ) (message : List ℕ) (d : Description)
    → CanMake n keys seeds member message → d ≡ made_descriptor keys seeds member message
    → IsDescriptor d.length d.message_hash d.pad_hashes d.capsules
form_of_made n keys seeds member message d can same =
    subst (λ (d : Description). IsDescriptor d.length d.message_hash d.pad_hashes d.capsules) (sym same)
    (made_is_of_grammar n keys seeds member message can).form

-- ---- an entry without a pad
pub pad_row-unread : (n : ℕ) (own kept : List ℕ) (member : ℕ) (seed entry : List ℕ) → bytes_eq entry own ≡ false
    → descriptor_read n entry ≡ None → [] ≡ pad_row n own kept member seed entry
unfolding pad_row
pad_row-unread n own kept member seed entry apart read =
    sym (cond-false (bytes_eq entry own) kept (unwrap_or (option_and_then (λ d. pad_found d member seed) (descriptor_read n entry)) [])
    apart
    ∙ ap (λ (o : Option Description). unwrap_or (option_and_then (λ d. pad_found d member seed) o) []) read)

pub pad_row-unfound : (n : ℕ) (own kept : List ℕ) (member : ℕ) (seed entry : List ℕ) (d : Description)
    → bytes_eq entry own ≡ false → descriptor_read n entry ≡ Some d → pad_found d member seed ≡ None
    → [] ≡ pad_row n own kept member seed entry
unfolding pad_row
pad_row-unfound n own kept member seed entry d apart read none =
    sym (cond-false (bytes_eq entry own) kept (unwrap_or (option_and_then (λ d. pad_found d member seed) (descriptor_read n entry)) [])
    apart
    ∙ ap (λ (o : Option Description). unwrap_or (option_and_then (λ d. pad_found d member seed) o) []) read
    ∙ ap (λ (o : Option (List ℕ)). unwrap_or o []) none)
