-- The tests of the code, over plain values.
use Rattle.std.proofs.Common.{◌≡◌, ℕ, ◌-◌, ◌<◌, ◌≤◌, Bool, true, false, not, ◌&&◌, List, [], ◌∷◌, length}
use Rattle.std.proofs.Common.{map, get_or, refl, sym, ap, ◌∙◌, arith, Option, Some, None, Result, Ok, Err}
use Rattle.std.proofs.Common.{inl, inr}
use Rattle.std.specs.Prelude.{nat_le, IfSome}
use Rattle.std.specs.Option.{option_map}
use Rattle.std.specs.Str.{bytes_eq}
use Rattle.std.proofs.lemmas.Bool.{cond-true, cond-false, and_from, and_parts, leb-true, le-leb, cases_Bool, cases_lt, false_from_ne_true, not_from_true, not_from_false}
use Rattle.std.proofs.lemmas.List.{get_or-map, get_or_read, get_or_past}
use Rattle.std.proofs.lemmas.List.Elements.{All-get_or}
use Rattle.std.proofs.lemmas.Slice.Eq.{bytes_eq-Decides}
use Rattle.wire_core.specs.Answers.{first_some, fault_unless, value_unless}
use Rattle.pad_stream.specs.Stream.{pad_of}
use Rattle.ring_encrypt.specs.Capsule.{capsule_of}
use Rattle.transcript_form.specs.declared.accusation.Accusation.{Accusation}
use Rattle.bulk_descriptor.specs.declared.descriptor.Descriptor.{Descriptor}
use Rattle.bulk_descriptor.specs.Descriptor.{Description, hash_of_pad, pad_hash_for, capsule_for}
use Rattle.bulk_descriptor.specs.Fields.{description_of}
use Rattle.bulk_descriptor.specs.SlotState.{AreSlots}
use Rattle.accusation.specs.declared.holding.AccusationRefusal.{AccusationRefusal}
use Rattle.accusation.specs.declared.holding.AccusationRefusal.TheVariants.{Slot, Member, Capsule, PadHash, PadSent}
use Rattle.accusation.specs.Accusation.{descriptor_at, key_for, pad_sent, seed_refusal, refusal_by, refusal_of}

-- a refusal as it is answered
abbrev pub answer_of : Option AccusationRefusal → Result (Unit {0}) AccusationRefusal
answer_of o = value_unless o tt

-- ---- the three tests of the seed
three : Bool → Bool → Bool → Option AccusationRefusal
three a b c = first_some (fault_unless a Capsule ∷ fault_unless b PadHash ∷ fault_unless c PadSent ∷ [])

seed_refusal_is : (d : Description) (member : ℕ) (seed key sent : List ℕ) (a b c : Bool)
    → bytes_eq (capsule_for d member) (capsule_of key seed) ≡ a
    → bytes_eq (hash_of_pad (pad_of seed d.length)) (pad_hash_for d member) ≡ b
    → not (bytes_eq sent (pad_of seed d.length)) ≡ c → seed_refusal d member seed key sent ≡ three a b c
unfolding seed_refusal three
seed_refusal_is d member seed key sent a b c e f g = rw (← e, ← f, ← g) refl

pub capsule_refused : (d : Description) (member : ℕ) (seed key sent capsule made : List ℕ) (r : Bool)
    → capsule ≡ capsule_for d member → made ≡ capsule_of key seed → r ≡ bytes_eq capsule made → r ≡ false
    → Err Capsule ≡ answer_of (seed_refusal d member seed key sent)
unfolding three
capsule_refused d member seed key sent capsule made r is-capsule is-made told fails =
    let a : bytes_eq (capsule_for d member) (capsule_of key seed) ≡ false = rw (is-capsule, is-made) at
    (let e : bytes_eq capsule made ≡ false = sym told ∙ fails in e) in
    sym (ap answer_of (seed_refusal_is d member seed key sent false (bytes_eq (hash_of_pad (pad_of seed d.length)) (pad_hash_for d member))
    (not (bytes_eq sent (pad_of seed d.length))) a refl refl))

pub hash_refused : (d : Description) (member : ℕ) (seed key sent capsule made given hash : List ℕ) (r s : Bool)
    → capsule ≡ capsule_for d member → made ≡ capsule_of key seed → r ≡ bytes_eq capsule made → r ≡ true
    → given ≡ pad_hash_for d member → hash ≡ hash_of_pad (pad_of seed d.length) → s ≡ bytes_eq hash given → s ≡ false
    → Err PadHash ≡ answer_of (seed_refusal d member seed key sent)
unfolding three
hash_refused d member seed key sent capsule made given hash r s is-capsule is-made told holds is-given is-hash told' fails =
    let a : bytes_eq (capsule_for d member) (capsule_of key seed) ≡ true = rw (is-capsule, is-made) at
    (let e : bytes_eq capsule made ≡ true = sym told ∙ holds in e) in
    let b : bytes_eq (hash_of_pad (pad_of seed d.length)) (pad_hash_for d member) ≡ false =
    rw (is-hash, is-given) at (let e : bytes_eq hash given ≡ false = sym told' ∙ fails in e) in
    sym (ap answer_of (seed_refusal_is d member seed key sent true false (not (bytes_eq sent (pad_of seed d.length))) a b refl))

pub pad_refused : (d : Description) (member : ℕ) (seed key sent capsule made given hash : List ℕ) (r s : Bool)
    → capsule ≡ capsule_for d member → made ≡ capsule_of key seed → r ≡ bytes_eq capsule made → r ≡ true
    → given ≡ pad_hash_for d member → hash ≡ hash_of_pad (pad_of seed d.length) → s ≡ bytes_eq hash given → s ≡ true
    → sent ≡ pad_of seed d.length → Err PadSent ≡ answer_of (seed_refusal d member seed key sent)
unfolding three
pad_refused d member seed key sent capsule made given hash r s is-capsule is-made told holds is-given is-hash told' holds' same =
    let a : bytes_eq (capsule_for d member) (capsule_of key seed) ≡ true = rw (is-capsule, is-made) at
    (let e : bytes_eq capsule made ≡ true = sym told ∙ holds in e) in
    let b : bytes_eq (hash_of_pad (pad_of seed d.length)) (pad_hash_for d member) ≡ true =
    rw (is-hash, is-given) at (let e : bytes_eq hash given ≡ true = sym told' ∙ holds' in e) in
    let c : not (bytes_eq sent (pad_of seed d.length)) ≡ false = not_from_true (bytes_eq sent (pad_of seed d.length))
    ((bytes_eq-Decides sent (pad_of seed d.length)).1 same) in
    sym (ap answer_of (seed_refusal_is d member seed key sent true true false a b c))

pub seed_taken : (d : Description) (member : ℕ) (seed key sent capsule made given hash : List ℕ) (r s : Bool)
    → capsule ≡ capsule_for d member → made ≡ capsule_of key seed → r ≡ bytes_eq capsule made → r ≡ true
    → given ≡ pad_hash_for d member → hash ≡ hash_of_pad (pad_of seed d.length) → s ≡ bytes_eq hash given → s ≡ true
    → (sent ≡ pad_of seed d.length → ⊥) → Ok tt ≡ answer_of (seed_refusal d member seed key sent)
unfolding three
seed_taken d member seed key sent capsule made given hash r s is-capsule is-made told holds is-given is-hash told' holds' apart =
    let a : bytes_eq (capsule_for d member) (capsule_of key seed) ≡ true = rw (is-capsule, is-made) at
    (let e : bytes_eq capsule made ≡ true = sym told ∙ holds in e) in
    let b : bytes_eq (hash_of_pad (pad_of seed d.length)) (pad_hash_for d member) ≡ true =
    rw (is-hash, is-given) at (let e : bytes_eq hash given ≡ true = sym told' ∙ holds' in e) in
    let c : not (bytes_eq sent (pad_of seed d.length)) ≡ true =
    not_from_false (bytes_eq sent (pad_of seed d.length))
    (false_from_ne_true (bytes_eq sent (pad_of seed d.length)) (λ e. apart ((bytes_eq-Decides sent (pad_of seed d.length)).0 e))) in
    sym (ap answer_of (seed_refusal_is d member seed key sent true true true a b c))

-- an item of a list that is held elsewhere
pub item_read : (xs held : List (List ℕ)) (k : ℕ) (x : List ℕ) → held ≡ xs → k < length xs → x ≡ get_or held k x → x ≡ get_or xs k []
item_read xs held k x same h e = get_or_read xs k x h (e ∙ ap (λ (l : List (List ℕ)). get_or l k x) same) []

-- ---- the slot
pub no_descriptor_at : (descriptors : List (Option Description)) (slot : ℕ) → ((1 ≤ slot) × (slot ≤ length descriptors) → ⊥)
    → descriptor_at descriptors slot ≡ None
no_descriptor_at descriptors slot outside =
    elim (cases_Bool (nat_le 1 slot)) [
      | inl from ↦
          let least : 1 ≤ slot = leb-true 1 slot from in
          elim (cases_lt (length descriptors) slot) [
            | inl past ↦ cond-true (nat_le 1 slot) (get_or descriptors (slot - 1) None) None from
                ∙ get_or_past descriptors (slot - 1) None (omega arith)
            | inr within ↦ absurd (outside (least, within))
          ]
      | inr none ↦ cond-false (nat_le 1 slot) (get_or descriptors (slot - 1) None) None none
    ]

pub entry_at : (items : List (Option Descriptor)) (slot : ℕ) (x : Option Descriptor) → 1 ≤ slot → slot ≤ length items
    → x ≡ get_or items (slot - 1) x
    → descriptor_at (map (option_map description_of) items) slot ≡ option_map description_of x
entry_at items slot x first last is =
    cond-true (nat_le 1 slot) (get_or (map (option_map description_of) items) (slot - 1) None) None (le-leb 1 slot first)
    ∙ get_or-map (option_map description_of) items (slot - 1) x None (omega arith)
    ∙ ap (option_map description_of) (sym is)

pub refused_without : (a : Accusation) (descriptors : List (Option Description)) (table : List (List (List ℕ))) (keys : List (List ℕ))
    → descriptor_at descriptors a.slot ≡ None → Err Slot ≡ answer_of (refusal_of a descriptors table keys)
unfolding refusal_of
refused_without a descriptors table keys none = sym (ap (λ (o : Option Description). answer_of (refusal_by o a table keys)) none)

pub refused_member : (a : Accusation) (descriptors : List (Option Description)) (table : List (List (List ℕ))) (keys : List (List ℕ))
    (d : Description)
    → descriptor_at descriptors a.slot ≡ Some d
    → ((1 ≤ a.member) × (a.member ≤ length keys) → ⊥) → Err Member ≡ answer_of (refusal_of a descriptors table keys)
unfolding refusal_of
refused_member a descriptors table keys d some outside =
    let within = nat_le 1 a.member && nat_le a.member (length keys) in
    let fails : within ≡ false =
    false_from_ne_true within (λ e. let parts = and_parts (nat_le 1 a.member) (nat_le a.member (length keys)) e in
    outside (leb-true 1 a.member parts.0, leb-true a.member (length keys) parts.1)) in
    sym (ap (λ (o : Option Description). answer_of (refusal_by o a table keys)) some
    ∙ ap answer_of (cond-false within (seed_refusal d a.member a.seed (key_for keys a.member) (pad_sent table a.member a.slot))
    (Some Member) fails))

pub answered_by_seed : (a : Accusation) (descriptors : List (Option Description)) (table : List (List (List ℕ))) (keys : List (List ℕ))
    (d : Description) (key sent : List ℕ) (r : Result (Unit {0}) AccusationRefusal)
    → descriptor_at descriptors a.slot ≡ Some d → 1 ≤ a.member → a.member ≤ length keys → key ≡ key_for keys a.member
    → sent ≡ pad_sent table a.member a.slot
    → r ≡ answer_of (seed_refusal d a.member a.seed key sent) → r ≡ answer_of (refusal_of a descriptors table keys)
unfolding refusal_of
answered_by_seed a descriptors table keys d key sent r some first last is-key is-sent told =
    let within = nat_le 1 a.member && nat_le a.member (length keys) in
    let holds : within ≡ true = and_from (nat_le 1 a.member) (nat_le a.member (length keys)) (le-leb 1 a.member first)
    (le-leb a.member (length keys) last) in
    told
    ∙ ap (λ (key : List ℕ). answer_of (seed_refusal d a.member a.seed key sent)) is-key
    ∙ ap (λ (sent : List ℕ). answer_of (seed_refusal d a.member a.seed (key_for keys a.member) sent)) is-sent
    ∙ sym (ap (λ (o : Option Description). answer_of (refusal_by o a table keys)) some
    ∙ ap answer_of (cond-true within (seed_refusal d a.member a.seed (key_for keys a.member) (pad_sent table a.member a.slot)) (Some Member)
    holds))

-- ---- the pad that was sent
pub sent_read : (table rows : List (List (List ℕ))) (member slot : ℕ) (row held : List (List ℕ)) (item pad : List ℕ)
    → member - 1 < length table → rows ≡ table → row ≡ get_or rows (member - 1) row → held ≡ row
    → slot - 1 < length (get_or table (member - 1) []) → item ≡ get_or held (slot - 1) item → pad ≡ item → pad ≡ pad_sent table member slot
sent_read table rows member slot row held item pad h same is-row is-held room is-item is-pad =
    let there : row ≡ get_or table (member - 1) [] = get_or_read table (member - 1) row h
    (is-row ∙ ap (λ (l : List (List (List ℕ))). get_or l (member - 1) row) same) [] in
    let within : slot - 1 < length row = omega (arith, ap (λ (l : List (List ℕ)). length l) there) in
    let in_row : item ≡ get_or row (slot - 1) [] = get_or_read row (slot - 1) item within
    (is-item ∙ ap (λ (l : List (List ℕ)). get_or l (slot - 1) item) is-held) [] in
    is-pad ∙ in_row ∙ ap (λ (l : List (List ℕ)). get_or l (slot - 1) []) there

pub members_of : (descriptors : List (Option Description)) (table : List (List (List ℕ))) (slot : ℕ) (d : Description)
    → AreSlots descriptors table → 1 ≤ slot → slot ≤ length descriptors → descriptor_at descriptors slot ≡ Some d
    → length d.pad_hashes ≡ length descriptors
members_of descriptors table slot d are first last some =
    let there : get_or descriptors (slot - 1) None ≡ Some d = sym
    (cond-true (nat_le 1 slot) (get_or descriptors (slot - 1) None) None (le-leb 1 slot first)) ∙ some in
    let h : IfSome (get_or descriptors (slot - 1) None) (λ d. length d.pad_hashes ≡ length descriptors) =
    All-get_or (λ slot. IfSome slot (λ (d : Description). length d.pad_hashes ≡ length descriptors)) descriptors (slot - 1) None
    (omega arith) are.hashes in
    rw there at h
