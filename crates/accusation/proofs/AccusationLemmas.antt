-- When accusations hold.
use Rattle.std.proofs.Common.{◌≡◌, ◌≢◌, ℕ, zero, suc, ◌+◌, ◌-◌, ◌<◌, ◌≤◌, Bool, true, false, cond, not, ◌&&◌, List, [], ◌∷◌, length, map, get_or, refl, sym, ap, subst, ◌∙◌, arith, Option, Some, None, ◌⊎◌, inl, inr}
use Rattle.std.specs.Prelude.{nat_le, ◌↔◌}
use Rattle.std.specs.Option.{option_map, option_and_then}
use Rattle.std.specs.List.{find, range_with_len, enumerate_from}
use Rattle.std.specs.Str.{bytes_eq}
use Rattle.std.proofs.lemmas.Bool.{cond-true, cond-false, and_parts, and_from, leb-true, le-leb, cases_Bool, both_ways, not-true, not_from_false, false_from_ne_true}
use Rattle.std.proofs.lemmas.List.{get_or-map, length-map}
use Rattle.std.proofs.lemmas.List.Elements.{All-map}
use Rattle.std.proofs.lemmas.List.FromFn.{length-enumerate_from, get_or-enumerate_from}
use Rattle.std.proofs.lemmas.Slice.Eq.{bytes_eq-Decides}
use Rattle.wire_core.specs.Answers.{fault_unless}
use Rattle.wire_core.proofs.AnswerLemmas.{first_some-none, first_some-none_parts, fault_unless-true, fault_unless-holds, first_below-found}
use Rattle.pad_stream.specs.Stream.{pad_of}
use Rattle.ring_encrypt.specs.Capsule.{capsule_of}
use Rattle.transcript_form.specs.declared.accusation.Accusation.{Accusation}
use Rattle.transcript_form.specs.Accusation.{accusation_at}
use Rattle.bulk_descriptor.specs.declared.slot_state.SlotState.{SlotState}
use Rattle.bulk_descriptor.specs.declared.slot_state.SlotState.TheVariants.{Empty, Bad, Mismatched, Message}
use Rattle.bulk_descriptor.specs.Descriptor.{Description, descriptor_text, descriptor_read, made_descriptor, hash_of_pad, pad_hash_for, capsule_for, fits}
use Rattle.bulk_descriptor.specs.SlotState.{first_unfit, joined_state, joined_pads, unless_bad, slot_state, slot_states, pads_for}
use Rattle.bulk_descriptor.specs.Laws.{CanMake}
use Rattle.bulk_descriptor.proofs.SpellingLemmas.{spelled_are_read}
use Rattle.bulk_descriptor.proofs.FittingLemmas.{made_is_of_grammar, other_pads_fit, fits_parts, capsule_for-made, length_of-made}
use Rattle.accusation.specs.declared.holding.AccusationRefusal.{AccusationRefusal}
use Rattle.accusation.specs.declared.holding.AccusationRefusal.TheVariants.{Member, Capsule, PadHash, PadSent}
use Rattle.accusation.specs.Accusation.{descriptor_at, key_for, pad_sent, seed_refusal, refusal_by, refusal_of, HoldsOf}
use Rattle.accusation.specs.Item.{first_in, accusation_by, item_accusation, empty_item, NamesWithin}
use Rattle.accusation.specs.Laws.{HoldsExactly, HoldsLooksAtOne, EmptyItemRefused, ItemHolds, StatesNameMembers}

-- ---- the five conditions

-- the three of the seed
record SeedHolds (d : Description) (member : ℕ) (seed key sent : List ℕ) : Type 0 where
  pub sealed : capsule_for d member ≡ capsule_of key seed
  pub hash : hash_of_pad (pad_of seed d.length) ≡ pad_hash_for d member
  pub other : sent ≢ pad_of seed d.length

seed_holds : (d : Description) (member : ℕ) (seed key sent : List ℕ) → seed_refusal d member seed key sent ≡ None
    → SeedHolds d member seed key sent
unfolding seed_refusal
seed_holds d member seed key sent e =
    let capsule = bytes_eq (capsule_for d member) (capsule_of key seed) in
    let hash = bytes_eq (hash_of_pad (pad_of seed d.length)) (pad_hash_for d member) in
    let same = bytes_eq sent (pad_of seed d.length) in
    let one = first_some-none_parts (fault_unless capsule Capsule) (fault_unless hash PadHash ∷ fault_unless (not same) PadSent ∷ []) e in
    let two = first_some-none_parts (fault_unless hash PadHash) (fault_unless (not same) PadSent ∷ []) one.1 in
    let three = first_some-none_parts (fault_unless (not same) PadSent) [] two.1 in
    record {
      sealed = (bytes_eq-Decides (capsule_for d member) (capsule_of key seed)).0 (fault_unless-holds capsule Capsule one.0);
      hash = (bytes_eq-Decides (hash_of_pad (pad_of seed d.length)) (pad_hash_for d member)).0 (fault_unless-holds hash PadHash two.0);
      other = λ is. both_ways same (not-true same (fault_unless-holds (not same) PadSent three.0))
          ((bytes_eq-Decides sent (pad_of seed d.length)).1 is);
    }

seed_not_refused : (d : Description) (member : ℕ) (seed key sent : List ℕ) → SeedHolds d member seed key sent
    → seed_refusal d member seed key sent ≡ None
unfolding seed_refusal
seed_not_refused d member seed key sent h =
    let capsule = bytes_eq (capsule_for d member) (capsule_of key seed) in
    let hash = bytes_eq (hash_of_pad (pad_of seed d.length)) (pad_hash_for d member) in
    let same = bytes_eq sent (pad_of seed d.length) in
    let apart : same ≡ false = false_from_ne_true same (λ is. h.other ((bytes_eq-Decides sent (pad_of seed d.length)).0 is)) in
    first_some-none (fault_unless capsule Capsule) (fault_unless hash PadHash ∷ fault_unless (not same) PadSent ∷ [])
    (fault_unless-true capsule Capsule ((bytes_eq-Decides (capsule_for d member) (capsule_of key seed)).1 h.sealed))
    ∙ first_some-none (fault_unless hash PadHash) (fault_unless (not same) PadSent ∷ [])
    (fault_unless-true hash PadHash ((bytes_eq-Decides (hash_of_pad (pad_of seed d.length)) (pad_hash_for d member)).1 h.hash))
    ∙ first_some-none (fault_unless (not same) PadSent) [] (fault_unless-true (not same) PadSent (not_from_false same apart))

-- the member of a choice that gave nothing
chosen_none : (b : Bool) (o : Option AccusationRefusal) → cond b o (Some Member) ≡ None → (b ≡ true) × (o ≡ None)
chosen_none true o e = (refl, e)
chosen_none false o e = cc

of_descriptor : (d : Description) (a : Accusation) (table : List (List (List ℕ))) (keys : List (List ℕ))
    → refusal_by (Some d) a table keys ≡ None → HoldsOf d a table keys
of_descriptor d a table keys e =
    let parts = chosen_none (nat_le 1 a.member && nat_le a.member (length keys))
    (seed_refusal d a.member a.seed (key_for keys a.member) (pad_sent table a.member a.slot)) e in
    let within = and_parts (nat_le 1 a.member) (nat_le a.member (length keys)) parts.0 in
    let h = seed_holds d a.member a.seed (key_for keys a.member) (pad_sent table a.member a.slot) parts.1 in
    record {
      first = leb-true 1 a.member within.0;
      last = leb-true a.member (length keys) within.1;
      sealed = h.sealed;
      hash = h.hash;
      other
          = h.other;
    }

not_refused : (d : Description) (a : Accusation) (table : List (List (List ℕ))) (keys : List (List ℕ)) → HoldsOf d a table keys
    → refusal_by (Some d) a table keys ≡ None
not_refused d a table keys h =
    let within = and_from (nat_le 1 a.member) (nat_le a.member (length keys)) (le-leb 1 a.member h.first)
    (le-leb a.member (length keys) h.last) in
    cond-true (nat_le 1 a.member && nat_le a.member (length keys))
    (seed_refusal d a.member a.seed (key_for keys a.member) (pad_sent table a.member a.slot)) (Some Member) within
    ∙ seed_not_refused d a.member a.seed (key_for keys a.member) (pad_sent table a.member a.slot)
    (record { sealed = h.sealed; hash = h.hash; other = h.other })

exactly_by : (o : Option Description) (a : Accusation) (table : List (List (List ℕ))) (keys : List (List ℕ))
    → (refusal_by o a table keys ≡ None) ↔ ((d : Description) × (o ≡ Some d) × HoldsOf d a table keys)
exactly_by None a table keys = ((λ e. cc), (λ h. let e = h.1 in cc))
exactly_by (Some d) a table keys = (
  λ e. (d, refl, of_descriptor d a table keys e),
  λ h. let same : d ≡ h.0 = (let e = h.1 in cc) in not_refused d a table keys
      (subst (λ (x : Description). HoldsOf x a table keys) (sym same) h.2),
)

pub holds_exactly : HoldsExactly
unfolding refusal_of
holds_exactly a descriptors table keys = exactly_by (descriptor_at descriptors a.slot) a table keys

row_alone : (o : Option Description) (a : Accusation) (table table' : List (List (List ℕ))) (keys : List (List ℕ))
    → get_or table (a.member - 1) [] ≡ get_or table' (a.member - 1) [] → refusal_by o a table keys ≡ refusal_by o a table' keys
row_alone None a table table' keys same = refl
row_alone (Some d) a table table' keys same =
    ap (λ (row : List (List ℕ)). cond (nat_le 1 a.member && nat_le a.member (length keys))
    (seed_refusal d a.member a.seed (key_for keys a.member) (get_or row (a.slot - 1) [])) (Some Member)) same

pub holds_looks_at_one : HoldsLooksAtOne
unfolding refusal_of
holds_looks_at_one a descriptors table table' keys same = row_alone (descriptor_at descriptors a.slot) a table table' keys same

same_accusation : (a b : Accusation) → Some a ≡ Some b → a ≡ b
same_accusation a b e = cc

pub empty_item_refused : EmptyItemRefused
unfolding refusal_of
empty_item_refused a descriptors table keys e =
    let same : accusation_at empty_item ≡ a = same_accusation (accusation_at empty_item) a e in
    let none : a.slot ≡ 0 = sym (ap (λ (a : Accusation). a.slot) same) in
    ap (λ (slot : ℕ). refusal_by (descriptor_at descriptors slot) a table keys) none

-- ---- whom a state names
found_cases : (p : ℕ → Bool) (x : ℕ) (xs : List ℕ) (m : ℕ) (b : Bool) → p x ≡ b → cond b (Some x) (find p xs) ≡ Some m
    → ((p x ≡ true) × (x ≡ m)) ⊎ (find p xs ≡ Some m)
found_cases p x xs m true is e = inl (is, cc)
found_cases p x xs m false is e = inr e

find_found : (p : ℕ → Bool) (a n m : ℕ) → find p (range_with_len a n) ≡ Some m → (a ≤ m) × (m < a + n) × (p m ≡ true)
find_found p a zero m e = cc
find_found p a (suc n) m e =
    elim (found_cases p a (range_with_len (a + 1) n) m (p a) refl e) [
      | inl here ↦ let same : a ≡ m = here.1 in (omega arith, omega arith, ap p (sym same) ∙ here.0)
      | inr later ↦ let h = find_found p (a + 1) n m later in (omega (arith, h.0), omega (arith, h.1), h.2)
    ]

pub unfit_is : (d : Description) (pads : List (List ℕ)) (first : ℕ) → first_unfit d pads ≡ Some first → (1 ≤ first) × (first ≤ length pads)
    × (fits d first (get_or pads (first - 1) []) ≡ false)
unfolding first_unfit
unfit_is d pads first e =
    let h = find_found (λ member. not (fits d member (get_or pads (member - 1) []))) 1 (length pads) first e in
    (h.0, omega (arith, h.1), not-true (fits d first (get_or pads (first - 1) [])) h.2)

joined_is_not_bad : (d : Description) (message : List ℕ) (first : ℕ) → joined_state d message ≡ Bad first → ⊥
unfolding joined_state
joined_is_not_bad d message first e = not_bad _ message first e
  where
    not_bad : (b : Bool) (message : List ℕ) (first : ℕ) → cond b (Message message) Mismatched ≡ Bad first → ⊥
    not_bad true message first e = cc
    not_bad false message first e = cc

bad_names : (r : Option ℕ) (d : Description) (message : List ℕ) (first : ℕ) → unless_bad r (joined_state d message) ≡ Bad first
    → r ≡ Some first
bad_names None d message first e = absurd (joined_is_not_bad d message first e)
bad_names (Some f) d message first e = let e : Bad f ≡ Bad first = e in cc

joined_names_nobody : (n : ℕ) (d : Description) (message : List ℕ) → NamesWithin n (joined_state d message)
unfolding joined_state
joined_names_nobody n d message = nobody n _ message
  where
    nobody : (n : ℕ) (b : Bool) (message : List ℕ) → NamesWithin n (cond b (Message message) Mismatched)
    nobody n true message = tt
    nobody n false message = tt

names_by : (r : Option ℕ) (n : ℕ) (d : Description) (message : List ℕ) → ((first : ℕ) → r ≡ Some first → (1 ≤ first) × (first ≤ n))
    → NamesWithin n (unless_bad r (joined_state d message))
names_by None n d message h = joined_names_nobody n d message
names_by (Some first) n d message h = h first refl

names : (o : Option Description) (pads : List (List ℕ)) → NamesWithin (length pads) (slot_state o pads)
unfolding slot_state
names None pads = tt
names (Some d) pads = names_by (first_unfit d pads) (length pads) d (joined_pads pads)
    (λ first e. let h = unfit_is d pads first e in (h.0, h.1))

length-pads_for : (table : List (List (List ℕ))) (slot : ℕ) → length (pads_for table slot) ≡ length table
length-pads_for table slot = length-map table (λ (row : List (List ℕ)). get_or row slot [])

pub states_name_members : StatesNameMembers
states_name_members descriptors table =
    All-map (NamesWithin (length table)) (λ (p : ℕ × Option Description). slot_state p.1 (pads_for table p.0))
    (enumerate_from 0 descriptors)
    (λ k d h. subst (λ (n : ℕ). NamesWithin n (slot_state (get_or (enumerate_from 0 descriptors) k d).1
    (pads_for table (get_or (enumerate_from 0 descriptors) k d).0))) (length-pads_for table _) (names _ _))

-- ---- what a maker accuses
state_at : (descriptors : List (Option Description)) (table : List (List (List ℕ))) (k : ℕ) → k < length descriptors
    → get_or (slot_states descriptors table) k Empty ≡ slot_state (get_or descriptors k None) (pads_for table k)
state_at descriptors table k h =
    let f : ℕ × Option Description → SlotState = λ p. slot_state p.1 (pads_for table p.0) in
    let numbered = enumerate_from 0 descriptors in
    let place : 0 + k ≡ k = omega arith in
    get_or-map f numbered k (0, None) Empty (omega (arith, length-enumerate_from 0 descriptors))
    ∙ ap f (get_or-enumerate_from 0 descriptors k (0, None) h)
    ∙ ap (λ (i : ℕ). slot_state (get_or descriptors k None) (pads_for table i)) place

pub holds_at : (n : ℕ) (keys seeds : List (List ℕ)) (maker : ℕ) (message : List ℕ) (table : List (List (List ℕ))) (k first : ℕ)
    → CanMake n keys seeds maker message → length table ≡ n
    → slot_state (Some (made_descriptor keys seeds maker message)) (pads_for table k) ≡ Bad first → first ≢ maker
    → HoldsOf (made_descriptor keys seeds maker message) (record { slot = k + 1; member = first; seed = get_or seeds (first - 1) [] }) table
    keys
unfolding slot_state
holds_at n keys seeds maker message table k first can rows bad other =
    let d = made_descriptor keys seeds maker message in
    let pads = pads_for table k in
    let unfit = unfit_is d pads first (bad_names (first_unfit d pads) d (joined_pads pads) first bad) in
    let below : first ≤ n = omega (arith, unfit.1, length-pads_for table k) in
    let long = length_of-made keys seeds maker message in
    let fit = other_pads_fit n keys seeds maker first message can unfit.0 below other in
    let hash : hash_of_pad (pad_of (get_or seeds (first - 1) []) (length message)) ≡ pad_hash_for d first =
    (fits_parts d first (pad_of (get_or seeds (first - 1) []) (length message)) fit).1 in
    let place : k + 1 - 1 ≡ k = omega arith in
    let sent : pad_sent table first (k + 1) ≡ get_or pads (first - 1) [] =
    ap (λ (i : ℕ). get_or (get_or table (first - 1) []) i []) place
    ∙ sym (get_or-map (λ (row : List (List ℕ)). get_or row k []) table (first - 1) [] [] (omega (arith, unfit.0))) in
    record {
      first = unfit.0;
      last = omega (arith, below, can.as_many_keys);
      sealed = capsule_for-made n keys seeds maker first message can unfit.0 below;
      hash = ap (λ (l : ℕ). hash_of_pad (pad_of (get_or seeds (first - 1) []) l)) long ∙ hash;
      other = λ is. both_ways (fits d first (get_or pads (first - 1) [])) unfit.2
          (ap (fits d first) (sym sent ∙ is ∙ ap (pad_of (get_or seeds (first - 1) [])) long) ∙ fit);
    }

-- what an own slot that is bad makes of the descriptors
pub first_in_cases : (own : List ℕ) (o : Option (List ℕ)) (s : SlotState) (first : ℕ) → first_in own o s ≡ Some first → (o ≡ Some own)
    × (s ≡ Bad first)
first_in_cases own None s first e = cc
first_in_cases own (Some bytes) Empty first e = cc
first_in_cases own (Some bytes) Mismatched first e = cc
first_in_cases own (Some bytes) (Message m) first e = cc
first_in_cases own (Some bytes) (Bad f) first e =
    elim (cases_Bool (bytes_eq bytes own)) [
      | inl same ↦
          let found : Some f ≡ Some first = sym (cond-true (bytes_eq bytes own) (Some f) None same) ∙ e in
          (ap (λ (b : List ℕ). Some b) ((bytes_eq-Decides bytes own).0 same), ap Bad (some_number f first found))
      | inr other ↦ absurd (none_number first (sym (cond-false (bytes_eq bytes own) (Some f) None other) ∙ e))
    ]
  where
    some_number : (f first : ℕ) → Some f ≡ Some first → f ≡ first
    some_number f first e = cc

    none_number : (first : ℕ) → let none : Option ℕ = None in none ≡ Some first → ⊥
    none_number first e = cc

mapped_cases : (g : ℕ → Accusation) (o : Option ℕ) (a : Accusation) → option_map g o ≡ Some a → (x : ℕ) × (o ≡ Some x) × (g x ≡ a)
mapped_cases g None a e = cc
mapped_cases g (Some x) a e = (x, refl, same_accusation (g x) a e)

holds_in_slot : (n : ℕ) (keys seeds : List (List ℕ)) (maker : ℕ) (message : List ℕ) (opened : List (Option (List ℕ)))
    (table : List (List (List ℕ))) (k first : ℕ) → CanMake n keys seeds maker message → length table ≡ n
    → k < length opened → get_or opened k None ≡ Some (descriptor_text (made_descriptor keys seeds maker message))
    → get_or (slot_states (map (option_and_then (descriptor_read n)) opened) table) k Empty ≡ Bad first → first ≢ maker
    → refusal_of (record { slot = k + 1; member = first; seed = get_or seeds (first - 1) [] })
    (map (option_and_then (descriptor_read n)) opened) table keys ≡ None
holds_in_slot n keys seeds maker message opened table k first can rows h own bad other =
    let d = made_descriptor keys seeds maker message in
    let descriptors = map (option_and_then (descriptor_read n)) opened in
    let a : Accusation = record { slot = k + 1; member = first; seed = get_or seeds (first - 1) [] } in
    let below : k < length descriptors = omega (arith, length-map opened (option_and_then (descriptor_read n))) in
    let there : get_or descriptors k None ≡ Some d =
    get_or-map (option_and_then (descriptor_read n)) opened k None None h ∙ ap (option_and_then (descriptor_read n)) own
    ∙ spelled_are_read n d (made_is_of_grammar n keys seeds maker message can) in
    let state : slot_state (Some d) (pads_for table k) ≡ Bad first = ap (λ (o : Option Description). slot_state o (pads_for table k))
    (sym there) ∙ sym (state_at descriptors table k below) ∙ bad in
    let place : k + 1 - 1 ≡ k = omega arith in
    let at : descriptor_at descriptors (k + 1) ≡ Some d =
    cond-true (nat_le 1 (k + 1)) (get_or descriptors (k + 1 - 1) None) None (le-leb 1 (k + 1) (omega arith))
    ∙ ap (λ (i : ℕ). get_or descriptors i None) place ∙ there in
    (holds_exactly a descriptors table keys).1 (d, at, holds_at n keys seeds maker message table k first can rows state other)

pub item_holds : ItemHolds
unfolding item_accusation
item_holds n keys seeds maker message opened table a can rows e other =
    let own = descriptor_text (made_descriptor keys seeds maker message) in
    let descriptors = map (option_and_then (descriptor_read n)) opened in
    let states = slot_states descriptors table in
    let long : length states ≡ length opened = length-map (enumerate_from 0 descriptors)
    (λ (p : ℕ × Option Description). slot_state p.1 (pads_for table p.0)) ∙ length-enumerate_from 0 descriptors
    ∙ length-map opened (option_and_then (descriptor_read n)) in
    let found = first_below-found (accusation_by own opened states seeds) (length states) a e in
    let k = found.0 in
    let made : ℕ → Accusation = λ first. record { slot = k + 1; member = first; seed = get_or seeds (first - 1) [] } in
    let parts = mapped_cases made (first_in own (get_or opened k None) (get_or states k Empty)) a found.2 in
    let slot = first_in_cases own (get_or opened k None) (get_or states k Empty) parts.0 parts.1 in
    let apart : parts.0 ≢ maker = λ same. other (ap (λ (a : Accusation). a.member) (sym parts.2) ∙ same) in
    subst (λ (a : Accusation). refusal_of a descriptors table keys ≡ None) parts.2
    (holds_in_slot n keys seeds maker message opened table k parts.0 can rows (omega (arith, found.1)) slot.0 slot.1 apart)
