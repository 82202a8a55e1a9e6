-- What is made is of the grammar, and which pads fit it.
use Rattle.std.proofs.Common.{◌≡◌, ℕ, ◌+◌, ◌-◌, ◌<◌, ◌≤◌, ◌^◌, Bool, true, false, cond, not, ◌==◌, List, [], ◌∷◌, length, map, get_or, refl, sym, ap, subst, ◌∙◌, arith, All, min, inl, inr, Option, Some, None}
use Rattle.std.specs.Prelude.{Contains, IsTrue, unwrap_or}
use Rattle.std.specs.Option.{option_and_then}
use Rattle.std.specs.List.{zip, find, range_with_len, AllByRecursion}
use Rattle.std.specs.Str.{bytes_eq}
use Rattle.std.proofs.lemmas.Bool.{and_parts, and_from, eqb-true, eq-eqb, cond-true, cond-false, not-false, cases_Bool, both_ways}
use Rattle.std.proofs.lemmas.List.{get_or-map, length-map, ext_get_or}
use Rattle.std.proofs.lemmas.List.Elements.{All-map, All-get_or, All-from_recursion}
use Rattle.std.proofs.lemmas.List.FromFn.{length-range_with_len, get_or-range_with_len}
use Rattle.std.proofs.lemmas.Slice.Eq.{bytes_eq-Decides}
use Rattle.std.proofs.lemmas.Slice.Zip.{length-zip, get_or-zip}
use Rattle.wire_core.specs.declared.tag.Tag.TheVariants.{Message as OfMessage, PadHash}
use Rattle.wire_core.specs.Hash.{hash_of}
use Rattle.wire_core.proofs.ByteLists.{hash_bytes}
use Rattle.wire_core.proofs.Hashed.{same_hash}
use Rattle.pad_stream.specs.Stream.{pad_of}
use Rattle.ring_encrypt.specs.Capsule.{capsule_of, key_of_seed}
use Rattle.ring_encrypt.specs.Opening.{opened, IsMessage}
use Rattle.ring_encrypt.specs.Reduced.{is_reduced}
use Rattle.ring_encrypt.proofs.OpeningLemmas.{length-capsule_of}
use Rattle.ring_encrypt.proofs.ReducedLemmas.{sealed_is_reduced}
use Rattle.ring_encrypt.proofs.Exactness.{opens_exactly}
use Rattle.bulk_descriptor.specs.declared.slot_state.SlotState.TheVariants.{Message, Mismatched}
use Rattle.bulk_descriptor.specs.Descriptor.{Description, descriptor_text, descriptor_read, hash_of_pad, own_pad, made_pads, sealed_seeds, made_descriptor, pad_hash_for, capsule_for, fits, pad_if_hashed, pad_found, pad_row}
use Rattle.bulk_descriptor.specs.SlotState.{joined_pads, first_unfit, joined_state, slot_state}
use Rattle.bulk_descriptor.specs.Laws.{CanMake, MadeIsOfGrammar, OwnPadFits, OtherPadsFit, HonestPadFits, pad_string, FitsDetermines, AllFitMessage}
use Rattle.bulk_descriptor.proofs.SpellingLemmas.{spelled_are_read, spelling_determines}
use Rattle.bulk_descriptor.proofs.MakingLemmas.{sizes-made_pads, length-made_pads, made_pads-own, made_pads-other, pads_give_message}

-- ---- what is made is of the grammar
length-sealed_seeds : (keys seeds : List (List ℕ)) → length keys ≡ length seeds → length (sealed_seeds keys seeds) ≡ length seeds
unfolding sealed_seeds
length-sealed_seeds keys seeds same =
    length-map (zip keys seeds) (λ (p : List ℕ × List ℕ). capsule_of p.0 p.1) ∙ length-zip keys seeds
    ∙ (let least : min (length keys) (length seeds) ≡ length seeds = omega arith in least)

get_or-sealed_seeds : (keys seeds : List (List ℕ)) (k : ℕ) → k < length keys → k < length seeds
    → get_or (sealed_seeds keys seeds) k [] ≡ capsule_of (get_or keys k []) (get_or seeds k [])
unfolding sealed_seeds
get_or-sealed_seeds keys seeds k h h' =
    get_or-map (λ (p : List ℕ × List ℕ). capsule_of p.0 p.1) (zip keys seeds) k ([], []) [] (omega (arith, length-zip keys seeds))
    ∙ ap (λ (p : List ℕ × List ℕ). capsule_of p.0 p.1) (get_or-zip keys seeds k ([], []) h h')

all_sealed : (P : List ℕ → Type 0) (keys seeds : List (List ℕ)) → ((key m : List ℕ) → P (capsule_of key m))
    → All P (sealed_seeds keys seeds)
unfolding sealed_seeds
all_sealed P keys seeds each = All-map P (λ (p : List ℕ × List ℕ). capsule_of p.0 p.1) (zip keys seeds) (λ k d h. each _ _)

length-hashes : (seeds : List (List ℕ)) (member : ℕ) (message : List ℕ) → 1 ≤ member → member ≤ length seeds
    → length (map hash_of_pad (made_pads seeds member message)) ≡ length seeds
length-hashes seeds member message first last = length-map (made_pads seeds member message) hash_of_pad
    ∙ length-made_pads seeds member message first last

pub made_is_of_grammar : MadeIsOfGrammar
unfolding made_descriptor
made_is_of_grammar n keys seeds member message can =
    let first = can.first in
    let last : member ≤ length seeds = omega (arith, can.last, can.as_many_seeds) in
    let hashes : length (map hash_of_pad (made_pads seeds member message)) ≡ length seeds = length-hashes seeds member message first last in
    record {
      form = record {
        short = can.short;
        hash = (hash_bytes OfMessage (message ∷ [])).0;
        least = omega (arith, hashes, can.least, can.as_many_seeds);
        most = omega (arith, hashes, can.most, can.as_many_seeds);
        as_many = length-sealed_seeds keys seeds (can.as_many_keys ∙ sym can.as_many_seeds) ∙ sym hashes;
        hashes = All-map (λ hash. length hash ≡ 32) hash_of_pad (made_pads seeds member message) (λ k d h. (hash_bytes PadHash (_ ∷ [])).0);
        sizes = all_sealed (λ capsule. length capsule ≡ 2240) keys seeds length-capsule_of;
        reduced = all_sealed (λ capsule. IsTrue (is_reduced capsule)) keys seeds sealed_is_reduced;
      };
      members = hashes ∙ can.as_many_seeds;
    }

-- ---- which pads fit
pub fits_parts : (d : Description) (member : ℕ) (pad : List ℕ) → fits d member pad ≡ true → (length pad ≡ d.length)
    × (hash_of_pad pad ≡ pad_hash_for d member)
unfolding fits
fits_parts d member pad e =
    let parts = and_parts (length pad == d.length) (bytes_eq (hash_of_pad pad) (pad_hash_for d member)) e in
    (eqb-true (length pad) d.length parts.0, (bytes_eq-Decides (hash_of_pad pad) (pad_hash_for d member)).0 parts.1)

pub fits_from : (d : Description) (member : ℕ) (pad : List ℕ) → length pad ≡ d.length → hash_of_pad pad ≡ pad_hash_for d member
    → fits d member pad ≡ true
unfolding fits
fits_from d member pad long hash =
    and_from (length pad == d.length) (bytes_eq (hash_of_pad pad) (pad_hash_for d member)) (eq-eqb (length pad) d.length long)
    ((bytes_eq-Decides (hash_of_pad pad) (pad_hash_for d member)).1 hash)

-- the pad of each member
made_pad_fits : (n : ℕ) (keys seeds : List (List ℕ)) (maker member : ℕ) (message : List ℕ) → CanMake n keys seeds maker message → 1 ≤ member
    → member ≤ n
    → fits (made_descriptor keys seeds maker message) member (get_or (made_pads seeds maker message) (member - 1) []) ≡ true
unfolding made_descriptor
made_pad_fits n keys seeds maker member message can first last =
    let pads = made_pads seeds maker message in
    let d = made_descriptor keys seeds maker message in
    let count : length pads ≡ length seeds = length-made_pads seeds maker message can.first (omega (arith, can.last, can.as_many_seeds)) in
    let below : member - 1 < length pads = omega (arith, can.as_many_seeds) in
    let pad = get_or pads (member - 1) [] in
    let long : length pad ≡ length message = All-get_or (λ pad. length pad ≡ length message) pads (member - 1) [] below
    (sizes-made_pads seeds maker message) in
    fits_from d member pad long (sym (get_or-map hash_of_pad pads (member - 1) [] [] below))

pub own_pad_fits : OwnPadFits
own_pad_fits n keys seeds member message can =
    subst (λ (pad : List ℕ). fits (made_descriptor keys seeds member message) member pad ≡ true)
    (made_pads-own seeds member message can.first (omega (arith, can.last, can.as_many_seeds)))
    (made_pad_fits n keys seeds member member message can can.first can.last)

pub other_pads_fit : OtherPadsFit
other_pads_fit n keys seeds maker member message can first last other =
    subst (λ (pad : List ℕ). fits (made_descriptor keys seeds maker message) member pad ≡ true)
    (made_pads-other seeds maker member message can.first (omega (arith, can.last, can.as_many_seeds)) first
    (omega (arith, can.as_many_seeds)) other)
    (made_pad_fits n keys seeds maker member message can first last)

pub fits_determines : FitsDetermines
fits_determines strings d member pad pad' short none there there' e e' =
    let p = fits_parts d member pad e in
    let p' = fits_parts d member pad' e' in
    let small : length pad < 2 ^ 32 = omega (arith, p.0) in
    let small' : length pad' < 2 ^ 32 = omega (arith, p'.0) in
    let same = same_hash strings PadHash PadHash (pad ∷ []) (pad' ∷ []) none there there' (small, tt) (small', tt) (p.1 ∙ sym p'.1) in
    let pieces : pad ∷ [] ≡ pad' ∷ [] = same.1 in
    ap (λ (xs : List (List ℕ)). get_or xs 0 []) pieces

-- ---- what a member sends for an entry
pad_found-opened : (d : Description) (member : ℕ) (seed s : List ℕ) → opened seed (capsule_for d member) ≡ Some s
    → hash_of_pad (pad_of s d.length) ≡ pad_hash_for d member
    → pad_found d member seed ≡ Some (pad_of s d.length)
unfolding pad_found
pad_found-opened d member seed s opens hash =
    ap (option_and_then (pad_if_hashed d member)) opens
    ∙ cond-true (bytes_eq (hash_of_pad (pad_of s d.length)) (pad_hash_for d member)) (Some (pad_of s d.length)) None
    ((bytes_eq-Decides (hash_of_pad (pad_of s d.length)) (pad_hash_for d member)).1 hash)

pub pad_row-own : (n : ℕ) (own kept : List ℕ) (member : ℕ) (seed entry : List ℕ) → bytes_eq entry own ≡ true
    → pad_row n own kept member seed entry ≡ kept
unfolding pad_row
pad_row-own n own kept member seed entry e =
    cond-true (bytes_eq entry own) kept (unwrap_or (option_and_then (λ d. pad_found d member seed) (descriptor_read n entry)) []) e

pub pad_row-other : (n : ℕ) (own kept : List ℕ) (member : ℕ) (seed entry pad : List ℕ) (d : Description) → bytes_eq entry own ≡ false
    → descriptor_read n entry ≡ Some d → pad_found d member seed ≡ Some pad
    → pad_row n own kept member seed entry ≡ pad
unfolding pad_row
pad_row-other n own kept member seed entry pad d e read found =
    cond-false (bytes_eq entry own) kept (unwrap_or (option_and_then (λ d. pad_found d member seed) (descriptor_read n entry)) []) e
    ∙ ap (λ (o : Option Description). unwrap_or (option_and_then (λ d. pad_found d member seed) o) []) read
    ∙ ap (λ (o : Option (List ℕ)). unwrap_or o []) found

pub capsule_for-made : (n : ℕ) (keys seeds : List (List ℕ)) (maker member : ℕ) (message : List ℕ) → CanMake n keys seeds maker message
    → 1 ≤ member → member ≤ n
    → capsule_for (made_descriptor keys seeds maker message) member ≡ capsule_of (get_or keys (member - 1) [])
    (get_or seeds (member - 1) [])
unfolding made_descriptor
capsule_for-made n keys seeds maker member message can first last =
    get_or-sealed_seeds keys seeds (member - 1) (omega (arith, can.as_many_keys)) (omega (arith, can.as_many_seeds))

pub length_of-made : (keys seeds : List (List ℕ)) (maker : ℕ) (message : List ℕ)
    → (made_descriptor keys seeds maker message).length ≡ length message
unfolding made_descriptor
length_of-made keys seeds maker message = refl

-- the pad of a seed that the capsule for the member opens to
found_in_made : (n : ℕ) (keys seeds : List (List ℕ)) (maker member : ℕ) (message seed : List ℕ) → CanMake n keys seeds maker message
    → All IsMessage seeds → 1 ≤ member → member ≤ n
    → get_or keys (member - 1) [] ≡ key_of_seed seed → (member ≡ maker → ⊥)
    → let d = made_descriptor keys seeds maker message in
    (pad : List ℕ) × (pad_found d member seed ≡ Some pad) × (fits d member pad ≡ true)
found_in_made n keys seeds maker member message seed can messages first last key other =
    let d = made_descriptor keys seeds maker message in
    let s = get_or seeds (member - 1) [] in
    let is : IsMessage s = All-get_or IsMessage seeds (member - 1) [] (omega (arith, can.as_many_seeds)) messages in
    let capsule : capsule_for d member ≡ capsule_of (key_of_seed seed) s = capsule_for-made n keys seeds maker member message can first last
    ∙ ap (λ (key : List ℕ). capsule_of key s) key in
    let opens : opened seed (capsule_for d member) ≡ Some s = (opens_exactly seed (capsule_for d member) s).1 (is, capsule) in
    let same : pad_of s (length message) ≡ pad_of s d.length = ap (pad_of s) (sym (length_of-made keys seeds maker message)) in
    let fit : fits d member (pad_of s d.length) ≡ true = subst (λ (pad : List ℕ). fits d member pad ≡ true) same
    (other_pads_fit n keys seeds maker member message can first last other) in
    (pad_of s d.length, pad_found-opened d member seed s opens (fits_parts d member (pad_of s d.length) fit).1, fit)

pub honest_pad_fits : HonestPadFits
honest_pad_fits n keys seeds keys' seeds' maker member message message' seed can can' messages key own_if_same =
    let d = made_descriptor keys seeds maker message in
    let e = made_descriptor keys' seeds' member message' in
    let own = descriptor_text e in
    let entry = descriptor_text d in
    let kept = own_pad seeds' member message' in
    let g = made_is_of_grammar n keys seeds maker message can in
    let h = made_is_of_grammar n keys' seeds' member message' can' in
    elim (cases_Bool (bytes_eq entry own)) [
      | inl same ↦
          let one : d ≡ e = spelling_determines n d e g h ((bytes_eq-Decides entry own).0 same) in
          rw (pad_row-own n own kept member seed entry same) (subst (λ (x : Description). fits x member kept ≡ true) (sym one)
          (own_pad_fits n keys' seeds' member message' can'))
      | inr apart ↦
          let other : member ≡ maker → ⊥ = λ same. both_ways (bytes_eq entry own) apart ((bytes_eq-Decides entry own).1 (own_if_same same))
          in
          let found = found_in_made n keys seeds maker member message seed can messages can'.first can'.last key other in
          rw (pad_row-other n own kept member seed entry found.0 d apart (spelled_are_read n d g) found.1) found.2
    ]

-- ---- all pads fit
find-none_cons : (p : ℕ → Bool) (x : ℕ) (xs : List ℕ) (b : Bool) → p x ≡ b → cond b (Some x) (find p xs) ≡ None → (p x ≡ false)
    × (find p xs ≡ None)
find-none_cons p x xs true is e = cc
find-none_cons p x xs false is e = (is, e)

find-none : (p : ℕ → Bool) (xs : List ℕ) → find p xs ≡ None → AllByRecursion (λ x. p x ≡ false) xs
find-none p [] e = tt
find-none p (x ∷ xs) e = let parts = find-none_cons p x xs (p x) refl e in (parts.0, find-none p xs parts.1)

pub each_fits : (d : Description) (pads : List (List ℕ)) (k : ℕ) → first_unfit d pads ≡ None → k < length pads
    → fits d (k + 1) (get_or pads k []) ≡ true
unfolding first_unfit
each_fits d pads k e h =
    let p : ℕ → Bool = λ member. not (fits d member (get_or pads (member - 1) [])) in
    let members = range_with_len 1 (length pads) in
    let here : p (get_or members k 0) ≡ false = All-get_or (λ member. p member ≡ false) members k 0
    (omega (arith, length-range_with_len 1 (length pads))) (All-from_recursion (λ member. p member ≡ false) members
    (find-none p members e)) in
    let number : get_or members k 0 ≡ 1 + k = get_or-range_with_len 1 (length pads) k 0 h in
    let next : get_or members k 0 ≡ k + 1 = omega arith in
    let place : k + 1 - 1 ≡ k = omega arith in
    let there : not (fits d (k + 1) (get_or pads (k + 1 - 1) [])) ≡ false = rw next at here in
    rw place at (not-false (fits d (k + 1) (get_or pads (k + 1 - 1) [])) there)

slot_state-message : (d : Description) (pads : List (List ℕ)) (message : List ℕ) → first_unfit d pads ≡ None → joined_pads pads ≡ message
    → hash_of OfMessage (message ∷ []) ≡ d.message_hash
    → slot_state (Some d) pads ≡ Message message
unfolding slot_state joined_state
slot_state-message d pads message none joined hash =
    rw (none, joined) (cond-true (bytes_eq (hash_of OfMessage (message ∷ [])) d.message_hash) (Message message) Mismatched
    ((bytes_eq-Decides (hash_of OfMessage (message ∷ [])) d.message_hash).1 hash))

message_hash_of-made : (keys seeds : List (List ℕ)) (maker : ℕ) (message : List ℕ)
    → hash_of OfMessage (message ∷ []) ≡ (made_descriptor keys seeds maker message).message_hash
unfolding made_descriptor
message_hash_of-made keys seeds maker message = refl

pub all_fit_message : AllFitMessage
all_fit_message strings n keys seeds member message pads can none made sent count e =
    let d = made_descriptor keys seeds member message in
    let whole = made_pads seeds member message in
    let last : member ≤ length seeds = omega (arith, can.last, can.as_many_seeds) in
    let long : length whole ≡ length seeds = length-made_pads seeds member message can.first last in
    let short : d.length < 2 ^ 32 = omega (arith, can.short, length_of-made keys seeds member message) in
    let each : (k : ℕ) → k < length pads → get_or pads k [] ≡ get_or whole k [] = λ k h.
    let below : k < length whole = omega (arith, can.as_many_seeds) in
    let place : k + 1 - 1 ≡ k = omega arith in
    fits_determines strings d (k + 1) (get_or pads k []) (get_or whole k []) short none
    (All-get_or (λ pad. Contains strings (pad_string pad)) pads k [] h sent)
    (All-get_or (λ pad. Contains strings (pad_string pad)) whole k [] below made)
    (each_fits d pads k e h) (rw place at (made_pad_fits n keys seeds member (k + 1) message can (omega arith) (omega arith))) in
    let same : pads ≡ whole = ext_get_or [] pads whole (count ∙ sym can.as_many_seeds ∙ sym long) each in
    slot_state-message d pads message e (ap joined_pads same ∙ pads_give_message seeds member message)
    (message_hash_of-made keys seeds member message)
