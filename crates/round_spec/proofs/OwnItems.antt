-- What a member submits, and the pads that it sends, over a past of posts that read in their slots.
use Rattle.std.proofs.Common.{◌≡◌, ℕ, ◌+◌, ◌-◌, ◌*◌, ◌<◌, ◌≤◌, true, false, List, [], ◌∷◌, length, get_or, map, Option, Some, None, sym, ◌∙◌, refl, subst, arith, inl, inr}
use Rattle.std.specs.Prelude.{◌⊎◌, All, ◌==◌, bytes_eq, option_map, option_and_then, unwrap_or, slice_index_or, if◌then◌else◌}
use Rattle.std.specs.List.{enumerate_from}
use Rattle.std.specs.Option.{option_map_or}
use Rattle.std.proofs.lemmas.Bool.{cases_Bool, cond-false, cond-true}
use Rattle.std.proofs.lemmas.List.{length-map, length-replicate}
use Rattle.std.proofs.lemmas.List.FromFn.{get_or-map-range_with_len, length-enumerate_from, length-map-range_with_len}
use Rattle.std.proofs.lemmas.Option.{none-some}
use Rattle.wire_core.specs.Bytes.{IsBytes}
use Rattle.wire_core.specs.Hash.{derived}
use Rattle.wire_core.proofs.AnswerLemmas.{first_below-found}
use Rattle.wire_core.proofs.ByteLists.{IsBytes-cons, IsBytes-nil, hash_bytes}
use Rattle.phase_message.specs.declared.post.Post.{Post}
use Rattle.phase_message.specs.Body.{level}
use Rattle.phase_message.proofs.SlotBounds.{slot-bounds}
use Rattle.stage_log.specs.Log.{contents_of}
use Rattle.transcript_form.specs.declared.accusation.Accusation.{Accusation}
use Rattle.transcript_form.specs.Accusation.{accusation_spelling}
use Rattle.bulk_descriptor.specs.declared.slot_state.SlotState.{SlotState}
use Rattle.bulk_descriptor.specs.declared.slot_state.SlotState.TheVariants.{Bad, Empty}
use Rattle.bulk_descriptor.specs.Descriptor.{Description, descriptor_read, descriptor_text, hash_of_pad, own_pad, pad_found, pad_hash_for, pad_if_hashed, pad_row}
use Rattle.bulk_descriptor.specs.Laws.{CanMake}
use Rattle.bulk_descriptor.specs.SlotState.{slot_states}
use Rattle.bulk_descriptor.proofs.FittingLemmas.{made_is_of_grammar}
use Rattle.pad_stream.specs.Stream.{pad_of}
use Rattle.bulk_descriptor.proofs.MakingLemmas.{length-own_pad, length-pad_of}
use Rattle.bulk_descriptor.proofs.SpellingLemmas.{in_grammar, passes, read_passes, spelled_are_read}
use Rattle.accusation.specs.Item.{NamesWithin, accusation_by, empty_item, first_in, item_accusation, item_row}
use Rattle.accusation.proofs.AccusationLemmas.{first_in_cases, states_name_members}
use Rattle.layer_cipher.specs.Layer.{wrapping_of}
use Rattle.shuffle_core.specs.Shuffle.{opened_item}
use Rattle.shuffle_core.proofs.LayerSeeds.{seeds_are_messages}
use Rattle.shuffle_core.proofs.Submitted.{submission_adds}
use Rattle.shuffle_blame.specs.Replay.{outer_place}
use Rattle.round_spec.specs.Slots.{bulk_place, descriptors_opened, entries_opened, inner_place, items_opened, key_said, keys_said, list_said, pads_sent, seeds_revealed, slots_of_past}
use Rattle.round_spec.specs.Say.{Configuration, own_description, own_descriptor, own_item, own_key_seed, own_layer_seeds, own_opening, own_pad_seeds, own_submission, pad_for, shape_in}
use Rattle.round_spec.specs.OwnRows.{CanSay, IsPastAt}
use Rattle.round_spec.specs.Runs.{CanEnter}
use Rattle.round_spec.proofs.PastForms.{list-is}
use Rattle.round_spec.proofs.SealedBytes.{descriptor-bytes, own-pad-bytes, pad-bytes, wrapping-bytes, zero-bytes}

-- ---- the own number

pub record IsMember (c : Configuration) : Type 0 where
  pub first : 1 ≤ c.number
  pub last : c.number ≤ (shape_in c).members
  pub least : 2 ≤ (shape_in c).members
  pub most : (shape_in c).members ≤ 8

pub is-member : (c : Configuration) (stage : ℕ) (past : List Post) → CanSay c stage past → IsMember c
is-member c stage past can =
    let bounds = slot-bounds (shape_in c) stage c.number can.speaks in
    record { first = bounds.1; last = bounds.2; least = can.enter.roster.least; most = can.enter.roster.most }

-- ---- the own descriptor

keys-count : (c : Configuration) (past : List (List ℕ)) (place : ℕ) → length (keys_said (shape_in c) past place) ≡ (shape_in c).members
keys-count c past place = length-map-range_with_len (key_said (shape_in c) past place) 1 (shape_in c).members

seeds-count : (c : Configuration) → length (own_pad_seeds c) ≡ (shape_in c).members
seeds-count c = length-map-range_with_len (derived c.fresh c.round 12) 1 (shape_in c).members

can-make : (c : Configuration) (past : List (List ℕ)) → CanEnter c → IsMember c
    → CanMake (shape_in c).members (keys_said (shape_in c) past bulk_place) (own_pad_seeds c) c.number c.message
can-make c past is member =
    let most = member.most in record {
      least = member.least;
      most = omega arith;
      as_many_keys = keys-count c past bulk_place;
      as_many_seeds = seeds-count c;
      first = member.first;
      last = member.last;
      short = is.message;
    }

pub descriptor-long : (c : Configuration) (past : List (List ℕ)) → CanEnter c → IsMember c
    → length (own_descriptor c past) ≡ 36 + 2272 * (shape_in c).members
unfolding own_descriptor
descriptor-long c past is member =
    let n : ℕ = (shape_in c).members in
    let d : Description = own_description c past in
    let form = made_is_of_grammar n (keys_said (shape_in c) past bulk_place) (own_pad_seeds c) c.number c.message
    (can-make c past is member) in
    (passes n (descriptor_text (own_description c past)) (read_passes n (descriptor_text (own_description c past)) (own_description c past)
    (spelled_are_read n (own_description c past) form)).0).long

pub own-descriptor-bytes : (c : Configuration) (past : List (List ℕ)) → IsBytes (own_descriptor c past)
unfolding own_descriptor
own-descriptor-bytes c past = descriptor-bytes (keys_said (shape_in c) past bulk_place) (own_pad_seeds c) c.number c.message

-- ---- the opened list

opened-entries : (n : ℕ) (seeds : List (List ℕ)) (c : Configuration) (o : Option (List (List ℕ)))
    → ((list : List (List ℕ)) → o ≡ Some list → length list ≡ (shape_in c).members)
    → length (entries_opened (shape_in c) seeds o) ≡ (shape_in c).members
opened-entries n seeds c None each = length-replicate (shape_in c).members None
opened-entries n seeds c (Some list) each = length-map list (opened_item seeds) ∙ each list refl

-- as many entries as members are opened
pub opened-count : (c : Configuration) (stage : ℕ) (past : List Post) → IsPastAt c stage past → (shape_in c).members + 1 < stage
    → length (items_opened (shape_in c) (contents_of past) 1) ≡ (shape_in c).members
unfolding items_opened
opened-count c stage past is late =
    opened-entries 0 (seeds_revealed (shape_in c) (contents_of past) 1) c (list_said (shape_in c) (contents_of past) 1 (shape_in c).members)
    (λ list e. (list-is c stage past 1 (shape_in c).members list is (inl refl) (omega arith) (omega (arith, late)) e).count)

-- ---- what a member accuses

record Accuses (own : List ℕ) (opened : List (Option (List ℕ))) (states : List SlotState) (seeds : List (List ℕ)) (a : Accusation) : Type 0
  where
    pub k : ℕ
    pub within : k < length states
    pub first : ℕ
    pub bad : get_or states k Empty ≡ Bad first
    pub is : record { slot = k + 1; member = first; seed = get_or seeds (first - 1) [] } ≡ a

mapped : {A B : Type 0} (f : A → B) (o : Option A) (y : B) → option_map f o ≡ Some y → (x : A) × (o ≡ Some x) × (f x ≡ y)
mapped {A} {B} f None y e = absurd (none-some y e)
mapped {A} {B} f (Some x) y e = (x, refl, some-is (f x) y e)
  where
    some-is : (a b : B) → (let told : B → Option B = λ z. Some z in told a ≡ told b) → a ≡ b
    some-is a b e = cc

accuses : (own : List ℕ) (opened : List (Option (List ℕ))) (states : List SlotState) (seeds : List (List ℕ)) (a : Accusation)
    → item_accusation own opened states seeds ≡ Some a → Accuses own opened states seeds a
unfolding item_accusation
accuses own opened states seeds a e =
    let found = first_below-found (accusation_by own opened states seeds) (length states) a e in
    let k : ℕ = found.0 in
    let parts = mapped (λ (first : ℕ). record { slot = k + 1; member = first; seed = slice_index_or seeds (first - 1) [] })
    (first_in own (slice_index_or opened k None) (slice_index_or states k Empty)) a found.2 in
    record {
      k = k;
      within = found.1;
      first = parts.0;
      bad = (first_in_cases own (get_or opened k None) (get_or states k Empty) parts.0
          parts.1).1;
      is = parts.2;
    }

pub record IsItem (size : ℕ) (item : List ℕ) : Type 0 where
  pub long : length item ≡ size
  pub bytes : IsBytes item

accusation-item : (n : ℕ) (own : List ℕ) (opened : List (Option (List ℕ))) (states : List SlotState) (seeds : List (List ℕ))
    (a : Accusation) → n ≤ 8
    → length states ≡ n → All (NamesWithin n) states
    → ((k : ℕ) → k < n → IsItem 32 (get_or seeds k [])) → Accuses own opened states seeds a → IsItem 34 (accusation_spelling a)
accusation-item n own opened states seeds a few count named each is =
    let names : NamesWithin n (Bad is.first) = subst (NamesWithin n) is.bad (named is.k Empty is.within) in
    let lt = is.within in
    let seed = each (is.first - 1) (omega (arith, names)) in
    subst (λ (x : Accusation). IsItem 34 (accusation_spelling x)) is.is
    (item (is.k + 1) is.first (get_or seeds (is.first - 1) []) (omega (arith, lt, count, few)) (omega (arith, names.1, few)) seed)
  where
    item : (slot member : ℕ) (seed : List ℕ) → slot < 256 → member < 256 → IsItem 32 seed → IsItem 34 (slot ∷ member ∷ seed)
    item slot member seed small less is = record {
      long = (let long = is.long in omega (arith, long));
      bytes = IsBytes-cons slot (member ∷ seed) small (IsBytes-cons member seed less is.bytes);
    }

item-row : (n : ℕ) (own : List ℕ) (opened : List (Option (List ℕ))) (states : List SlotState) (seeds : List (List ℕ)) → n ≤ 8
    → length states ≡ n
    → All (NamesWithin n) states
    → ((k : ℕ) → k < n → IsItem 32 (get_or seeds k [])) → IsItem 34 (item_row own opened states seeds)
unfolding item_row
item-row n own opened states seeds few count named each = by_accusation (item_accusation own opened states seeds) refl
  where
    by_accusation : (o : Option Accusation) → item_accusation own opened states seeds ≡ o
        → IsItem 34 (option_map_or accusation_spelling o empty_item)
    by_accusation None e = record { long = (let nothing : ℕ = 0 in length-replicate 34 nothing); bytes = zero-bytes 34 }
    by_accusation (Some a) e = accusation-item n own opened states seeds a few count named each (accuses own opened states seeds a e)

seed-item : (c : Configuration) (k : ℕ) → k < (shape_in c).members → IsItem 32 (get_or (own_pad_seeds c) k [])
seed-item c k lt =
    subst (IsItem 32) (sym (get_or-map-range_with_len (derived c.fresh c.round 12) 1 (shape_in c).members k (1 + k) [] lt refl))
    (record { long = (hash_bytes _ _).0; bytes = (hash_bytes _ _).1 })

states-count : (c : Configuration) (past : List (List ℕ)) → length (slots_of_past (shape_in c) past) ≡ length
    (items_opened (shape_in c) past 1)
unfolding slots_of_past descriptors_opened
states-count c past =
    length-map (enumerate_from 0 (map (option_and_then (descriptor_read (shape_in c).members)) (items_opened (shape_in c) past 1))) _
    ∙ length-enumerate_from 0 (map (option_and_then (descriptor_read (shape_in c).members)) (items_opened (shape_in c) past 1))
    ∙ length-map (items_opened (shape_in c) past 1) (option_and_then (descriptor_read (shape_in c).members))

states-named : (c : Configuration) (past : List (List ℕ)) → All (NamesWithin (shape_in c).members) (slots_of_past (shape_in c) past)
unfolding slots_of_past pads_sent
states-named c past =
    subst (λ (n : ℕ). All (NamesWithin n) (slot_states (descriptors_opened (shape_in c) past) (pads_sent (shape_in c) past)))
    (length-map-range_with_len _ 1 (shape_in c).members)
    (states_name_members (descriptors_opened (shape_in c) past) (pads_sent (shape_in c) past))

-- ---- what it submits

-- how long an item of a shuffle is
item_size : Configuration → ℕ → ℕ
item_size c shuffle = if shuffle == 1 then 36 + 2272 * (shape_in c).members else 34

own-item : (c : Configuration) (own : List ℕ) (stage : ℕ) (past : List Post) (shuffle : ℕ) → CanSay c stage past
    → IsItem (36 + 2272 * (shape_in c).members) own
    → ((shuffle == 1) ≡ false → (shape_in c).members + 1 < stage)
    → IsItem (item_size c shuffle) (own_item c own (contents_of past) shuffle)
unfolding own_item item_size
own-item c own stage past shuffle can is late = by_shuffle (cases_Bool (shuffle == 1))
  where
    contents : List (List ℕ)
    contents = contents_of past

    by_shuffle : ((shuffle == 1) ≡ true) ⊎ ((shuffle == 1) ≡ false) → IsItem (if shuffle == 1 then 36 + 2272 * (shape_in c).members else 34)
        (if shuffle == 1 then own
        else item_row own (items_opened (shape_in c) (contents_of past) 1) (slots_of_past (shape_in c) (contents_of past))
        (own_pad_seeds c))
    by_shuffle (inl a) = rw a is
    by_shuffle (inr b) = rw b (item-row (shape_in c).members own (items_opened (shape_in c) (contents_of past) 1)
        (slots_of_past (shape_in c) (contents_of past)) (own_pad_seeds c)
        (is-member c stage past can).most (states-count c (contents_of past) ∙ opened-count c stage past can.past_is (late b))
        (states-named c (contents_of past)) (seed-item c))

layers-count : (c : Configuration) (shuffle side : ℕ) → length (own_layer_seeds c shuffle side) ≡ (shape_in c).members
layers-count c shuffle side = (seeds_are_messages (own_opening c shuffle side) c.round shuffle side c.number (shape_in c).members).0

pub own-submission : (c : Configuration) (own : List ℕ) (stage : ℕ) (past : List Post) (shuffle : ℕ) → CanSay c stage past
    → IsItem (36 + 2272 * (shape_in c).members) own → ((shuffle == 1) ≡ false → (shape_in c).members + 1 < stage)
    → IsItem (level (shape_in c).members shuffle 0) (own_submission c own (contents_of past) shuffle).ciphertext
unfolding own_submission item_size
own-submission c own stage past shuffle can of_own late =
    let n : ℕ = (shape_in c).members in
    let contents : List (List ℕ) = contents_of past in
    let inner : List (List ℕ) = keys_said (shape_in c) (contents_of past) (inner_place shuffle) in
    let outer : List (List ℕ) = keys_said (shape_in c) (contents_of past) (outer_place shuffle) in
    let item : List ℕ = own_item c own (contents_of past) shuffle in
    let is = own-item c own stage past shuffle can of_own late in
    let inner_count = keys-count c (contents_of past) (inner_place shuffle) in
    let outer_count = keys-count c (contents_of past) (outer_place shuffle) in
    let adds = submission_adds inner outer (own_layer_seeds c shuffle 1) (own_layer_seeds c shuffle 2) item
    (inner_count ∙ sym (layers-count c shuffle 1)) (outer_count ∙ sym (layers-count c shuffle 2)) in
    record {
      long = layers-long n (item_size c shuffle) (length item) (length inner) (length outer) _ is.long inner_count outer_count adds.1;
      bytes = wrapping-bytes outer (own_layer_seeds c shuffle 2) (wrapping_of inner (own_layer_seeds c shuffle 1) item)
          (wrapping-bytes inner (own_layer_seeds c shuffle 1) item is.bytes);
    }
  where
    layers-long : (n size item inner outer whole : ℕ) → item ≡ size → inner ≡ n → outer ≡ n → whole ≡ item + 2272 * (inner + outer)
        → whole ≡ size + 2272 * (2 * n - 0)
    layers-long n size item inner outer whole is first second e = omega (arith, is, first, second, e)

-- ---- the pads that it sends

pub record IsPad (pad : List ℕ) : Type 0 where
  pub short : length pad ≤ 65536
  pub bytes : IsBytes pad

pad-same : (a b : List ℕ) → (let told : List ℕ → Option (List ℕ) = λ x. Some x in told a ≡ told b) → a ≡ b
pad-same a b e = cc

found-pad : (d : Description) (member : ℕ) (seed pad : List ℕ) → d.length ≤ 65536 → pad_found d member seed ≡ Some pad → IsPad pad
unfolding pad_found
found-pad d member seed pad few e = by_seed _ e
  where
    by_seed : (o : Option (List ℕ)) → option_and_then (pad_if_hashed d member) o ≡ Some pad → IsPad pad
    by_seed None e = absurd (none-some pad e)
    by_seed (Some s) e = elim (cases_Bool (bytes_eq (hash_of_pad (pad_of s d.length)) (pad_hash_for d member))) [
      | inl is ↦
          let same = pad-same (pad_of s d.length) pad (sym (cond-true (bytes_eq (hash_of_pad (pad_of s d.length)) (pad_hash_for d member))
          (Some (pad_of s d.length)) None is) ∙ e) in
          subst IsPad same (record { short = omega (arith, few, length-pad_of s d.length); bytes = pad-bytes s d.length })
      | inr not_it ↦ absurd (none-some pad (sym (cond-false (bytes_eq (hash_of_pad (pad_of s d.length)) (pad_hash_for d member))
          (Some (pad_of s d.length)) None not_it) ∙ e))
    ]

read-short : (n : ℕ) (entry : List ℕ) (d : Description) → descriptor_read n entry ≡ Some d → d.length ≤ 65536
read-short n entry d e =
    let parts = read_passes n entry d e in
    subst (λ (x : Description). x.length ≤ 65536) parts.1 (in_grammar n entry (passes n entry parts.0)).form.short

no-pad : IsPad []
no-pad = record { short = omega arith; bytes = IsBytes-nil }

other-pad : (n member : ℕ) (seed entry : List ℕ) (o : Option Description) → descriptor_read n entry ≡ o
    → IsPad (unwrap_or (option_and_then (λ d. pad_found d member seed) o) [])
other-pad n member seed entry None e = no-pad
other-pad n member seed entry (Some d) e = by_pad (pad_found d member seed) refl
  where
    by_pad : (o : Option (List ℕ)) → pad_found d member seed ≡ o → IsPad (unwrap_or o [])
    by_pad None is = no-pad
    by_pad (Some pad) is = found-pad d member seed pad (read-short n entry d e) is

row-pad : (n : ℕ) (own kept : List ℕ) (member : ℕ) (seed entry : List ℕ) → IsPad kept → IsPad (pad_row n own kept member seed entry)
unfolding pad_row
row-pad n own kept member seed entry is = elim (cases_Bool (bytes_eq entry own)) [
  | inl same ↦ subst IsPad (sym (cond-true (bytes_eq entry own) kept
      (unwrap_or (option_and_then (λ d. pad_found d member seed) (descriptor_read n entry)) []) same)) is
  | inr other ↦ subst IsPad (sym (cond-false (bytes_eq entry own) kept
      (unwrap_or (option_and_then (λ d. pad_found d member seed) (descriptor_read n entry)) []) other))
      (other-pad n member seed entry (descriptor_read n entry) refl)
]

-- the pad that it sends for an entry
pub sent-pad : (c : Configuration) (own : List ℕ) (entry : Option (List ℕ)) → CanEnter c → IsPad (pad_for c own entry)
sent-pad c own None is = no-pad
sent-pad c own (Some entry) is = row-pad (shape_in c).members own (own_pad (own_pad_seeds c) c.number c.message) c.number
    (own_key_seed c bulk_place) entry
    (record {
      short = (let few = is.message in omega (arith, few, length-own_pad (own_pad_seeds c) c.number c.message));
      bytes = own-pad-bytes (own_pad_seeds c) c.number c.message is.bytes;
    })
