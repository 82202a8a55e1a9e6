-- The list of a round's slots: each slot stands at its number, and nothing else stands there.
use Rattle.std.proofs.Common.{◌≡◌, ℕ, zero, suc, ◌+◌, ◌-◌, ◌<◌, ◌≤◌, true, List, [], ◌∷◌, ◌++◌, length, map, take, Option, Some, None, refl, ap, sym, ◌∙◌, arith, inl, inr, length-append, eqb-true, get_or}
use Rattle.std.specs.Option.{option_map}
use Rattle.std.specs.Prelude.{◌⊎◌, nat_le}
use Rattle.std.specs.List.{slice_get, sum_by, range_with_len}
use Rattle.std.proofs.lemmas.Bool.{cases_lt, and_parts, leb-true, and_from, le-leb, eq-eqb}
use Rattle.std.proofs.lemmas.Option.{slice_get-map, slice_get_cases, slice_get_within, slice_get_past}
use Rattle.std.proofs.lemmas.List.{length-map, take-take, take_all}
use Rattle.std.proofs.lemmas.List.FromFn.{length-range_with_len, length-map-range_with_len}
use Rattle.std.proofs.lemmas.List.Sums.{sum_by-cons, sum_by-append, sum_by-take-le}
use Rattle.phase_message.specs.declared.stage.Slot.{Slot}
use Rattle.phase_message.specs.declared.stage.StageKind.{StageKind}
use Rattle.phase_message.specs.declared.stage.StageKind.TheVariants.{Keys, Submit, Shuffle, Go, Final, Pad, Check, Confirm}
use Rattle.phase_message.specs.Shape.{Shape}
use Rattle.phase_message.specs.Stages.{stages, turns, kind_of_stage, is_member, is_sender, speaks, is_slot}
use Rattle.phase_message.specs.Slots.{senders_of, slots_before, place_in, slot_number, slot_count, stage_count, senders_in, slots_from, slots_of, slot_at}
use Rattle.phase_message.proofs.Counts.{slots_next}
use Rattle.phase_message.proofs.Table.{slice_get_left, slice_get_right}

-- ---- the senders of a stage

-- a number of a range stands at its place
in_range : (a n i : ℕ) → i < n → slice_get (range_with_len a n) i ≡ Some (a + i)
in_range a zero i lt = absurd (omega arith)
in_range a (suc n) zero lt = let e : a ≡ a + 0 = omega arith in ap (λ (k : ℕ). Some k) e
in_range a (suc n) (suc i) lt =
    let e : (a + 1) + i ≡ a + suc i = omega arith in
    in_range (a + 1) n i (omega arith) ∙ ap (λ (k : ℕ). Some k) e

range-at : (a n i s : ℕ) → slice_get (range_with_len a n) i ≡ Some s → (i < n) × (s ≡ a + i)
range-at a zero i s e = absurd cc
range-at a (suc n) zero s e = let same : a ≡ s = cc in (omega arith, omega arith)
range-at a (suc n) (suc i) s e = let x = range-at (a + 1) n i s e in (omega arith, omega arith)

member-at : (n s : ℕ) → is_member n s ≡ true → slice_get (range_with_len 1 n) (s - 1) ≡ Some s
member-at n s e =
    let p = and_parts (nat_le 1 s) (nat_le s n) e in
    let least : 1 ≤ s = leb-true 1 s p.0 in
    let most : s ≤ n = leb-true s n p.1 in
    let same : 1 + (s - 1) ≡ s = omega arith in
    in_range 1 n (s - 1) (omega arith) ∙ ap (λ (k : ℕ). Some k) same

at-member : (n i s : ℕ) → slice_get (range_with_len 1 n) i ≡ Some s → (is_member n s ≡ true) × (s - 1 ≡ i)
at-member n i s e =
    let x = range-at 1 n i s e in
    (and_from (nat_le 1 s) (nat_le s n) (le-leb 1 s (omega arith)) (le-leb s n (omega arith)), omega arith)

-- a sender stands at its place among those of its stage
sender-at : (shape : Shape) (kind : StageKind) (s : ℕ) → is_sender shape kind s ≡ true
    → slice_get (senders_in shape kind) (place_in (Some kind) s) ≡ Some s
sender-at shape (Shuffle shuffle k) s e = let same : k ≡ s = sym (eqb-true s k e) in ap (λ (k : ℕ). Some k) same
sender-at shape Keys s e = member-at shape.members s e
sender-at shape (Submit shuffle) s e = member-at shape.members s e
sender-at shape (Go shuffle) s e = member-at shape.members s e
sender-at shape (Final shuffle) s e = member-at shape.members s e
sender-at shape Pad s e = member-at shape.members s e
sender-at shape Check s e = member-at shape.members s e
sender-at shape Confirm s e = member-at shape.members s e

-- and who stands there is a sender
at-sender : (shape : Shape) (kind : StageKind) (i s : ℕ) → slice_get (senders_in shape kind) i ≡ Some s → (is_sender shape kind s ≡ true)
    × (place_in (Some kind) s ≡ i)
at-sender shape (Shuffle shuffle k) zero s e = let same : s ≡ k = cc in (eq-eqb s k same, refl)
at-sender shape (Shuffle shuffle k) (suc i) s e = absurd cc
at-sender shape Keys i s e = at-member shape.members i s e
at-sender shape (Submit shuffle) i s e = at-member shape.members i s e
at-sender shape (Go shuffle) i s e = at-member shape.members i s e
at-sender shape (Final shuffle) i s e = at-member shape.members i s e
at-sender shape Pad i s e = at-member shape.members i s e
at-sender shape Check i s e = at-member shape.members i s e
at-sender shape Confirm i s e = at-member shape.members i s e

pub length-senders_in : (shape : Shape) (kind : StageKind) → length (senders_in shape kind) ≡ senders_of shape kind
length-senders_in shape (Shuffle shuffle k) = refl
length-senders_in shape Keys = length-range_with_len 1 shape.members
length-senders_in shape (Submit shuffle) = length-range_with_len 1 shape.members
length-senders_in shape (Go shuffle) = length-range_with_len 1 shape.members
length-senders_in shape (Final shuffle) = length-range_with_len 1 shape.members
length-senders_in shape Pad = length-range_with_len 1 shape.members
length-senders_in shape Check = length-range_with_len 1 shape.members
length-senders_in shape Confirm = length-range_with_len 1 shape.members

-- ---- the slots of stages

-- the slots of one stage
abbrev row : Shape → ℕ → StageKind → List Slot
row shape first kind = map (λ sender. record { stage = first; sender = sender }) (senders_in shape kind)

length-row : (shape : Shape) (first : ℕ) (kind : StageKind) → length (row shape first kind) ≡ senders_of shape kind
length-row shape first kind = length-map (senders_in shape kind) (λ sender. record { stage = first; sender = sender })
    ∙ length-senders_in shape kind

length-slots_from : (shape : Shape) (first : ℕ) (kinds : List StageKind)
    → length (slots_from shape first kinds) ≡ sum_by (senders_of shape) kinds
length-slots_from shape first [] = refl
length-slots_from shape first (kind ∷ kinds) =
    omega (
      arith,
      length-append (row shape first kind) (slots_from shape (first + 1) kinds),
      length-row shape first kind,
      length-slots_from
          shape (first + 1) kinds,
      sum_by-cons (senders_of shape) kind kinds,
    )

-- the slot of the sender at a place of a stage stands behind those of the stages before
slot-in_order : (shape : Shape) (first : ℕ) (kinds : List StageKind) (i place s : ℕ) (kind : StageKind)
    → slice_get kinds i ≡ Some kind → slice_get (senders_in shape kind) place ≡ Some s
    → slice_get (slots_from shape first kinds) (sum_by (senders_of shape) (take i kinds) + place) ≡ Some
    (record { stage = first + i; sender = s })
slot-in_order shape first [] i place s kind e at = absurd cc
slot-in_order shape first (head ∷ kinds) zero place s kind e at =
    let same : head ≡ kind = cc in
    let there : slice_get (senders_in shape head) place ≡ Some s = ap (λ (k : StageKind). slice_get (senders_in shape k) place) same ∙ at in
    let within : place < length (row shape first head) = omega (
      arith,
      slice_get_within (senders_in shape head) place s there,
      length-row
          shape first head,
      length-senders_in shape head,
    ) in
    let none : 0 + place ≡ place = omega arith in
    let stage : first ≡ first + 0 = omega arith in
    ap (slice_get (slots_from shape first (head ∷ kinds))) none
    ∙ slice_get_left (row shape first head) (slots_from shape (first + 1) kinds) place within
    ∙ slice_get-map (λ sender. record { stage = first; sender = sender }) (senders_in shape head) place
    ∙ ap (option_map (λ sender. record { stage = first; sender = sender })) there
    ∙ ap (λ (t : ℕ). Some (record { stage = t; sender = s })) stage
slot-in_order shape first (head ∷ kinds) (suc i) place s kind e at =
    let long = length-row shape first head in
    let number : sum_by (senders_of shape) (take (suc i) (head ∷ kinds)) + place ≡ length (row shape first head) +
    (sum_by (senders_of shape) (take i kinds) + place) = omega (arith, sum_by-cons (senders_of shape) head (take i kinds), long) in
    let stage : first + 1 + i ≡ first + suc i = omega arith in
    ap (slice_get (slots_from shape first (head ∷ kinds))) number
    ∙ slice_get_right (row shape first head) (slots_from shape (first + 1) kinds) (sum_by (senders_of shape) (take i kinds) + place)
    ∙ slot-in_order shape (first + 1) kinds i place s kind e at
    ∙ ap (λ (t : ℕ). Some (record { stage = t; sender = s })) stage

-- what a slot of the list is: a sender at its place of a stage of the list
record IsFound (shape : Shape) (first : ℕ) (kinds : List StageKind) (number : ℕ) (slot : Slot) : Type 0 where
  index : ℕ
  place : ℕ
  kind : StageKind
  stage_is : slot.stage ≡ first + index
  kind_is : slice_get kinds index ≡ Some kind
  sender_is : slice_get (senders_in shape kind) place ≡ Some slot.sender
  number_is : number ≡ sum_by (senders_of shape) (take index kinds) + place

option_map-some : {A B : Type 0} (f : A → B) (o : Option A) (y : B) → option_map f o ≡ Some y → (x : A) × (o ≡ Some x) × (f x ≡ y)
option_map-some f None y e = absurd cc
option_map-some f (Some x) y e = (x, refl, cc)

slot-found : (shape : Shape) (first : ℕ) (kinds : List StageKind) (number : ℕ) (slot : Slot)
    → slice_get (slots_from shape first kinds) number ≡ Some slot → IsFound shape first kinds number slot
slot-found shape first [] number slot e = absurd cc
slot-found shape first (head ∷ kinds) number slot e =
    elim (cases_lt number (length (row shape first head))) [
      | inl here ↦
          let at : slice_get (row shape first head) number ≡ Some slot = sym
          (slice_get_left (row shape first head) (slots_from shape (first + 1) kinds) number here) ∙ e in
          let x = option_map-some (λ (sender : ℕ). record { stage = first; sender = sender }) (slice_get (senders_in shape head) number)
          slot (sym (slice_get-map (λ sender. record { stage = first; sender = sender }) (senders_in shape head) number) ∙ at) in
          record {
            index = 0;
            place = number;
            kind = head;
            stage_is = sym (ap (λ (s : Slot). s.stage) x.2) ∙ (omega arith);
            kind_is = refl;
            sender_is = x.1 ∙ ap (λ (s : Slot). Some s.sender) x.2;
            number_is = omega arith;
          }
      | inr later ↦
          let k : ℕ = number - length (row shape first head) in
          let split : number ≡ length (row shape first head) + k = omega arith in
          let at : slice_get (slots_from shape (first + 1) kinds) k ≡ Some slot = sym
          (slice_get_right (row shape first head) (slots_from shape (first + 1) kinds) k)
          ∙ sym (ap (slice_get (slots_from shape first (head ∷ kinds))) split) ∙ e in
          let f = slot-found shape (first + 1) kinds k slot at in
          record {
            index = suc f.index;
            place = f.place;
            kind = f.kind;
            stage_is = omega (arith, f.stage_is);
            kind_is = f.kind_is;
            sender_is = f.sender_is;
            number_is = omega (arith, f.number_is, sum_by-cons (senders_of shape) head (take f.index kinds), length-row shape first head);
          }
    ]

-- ---- the slots of a round

speaks-kind : (shape : Shape) (o : Option StageKind) (s : ℕ) → speaks shape o s ≡ true → (kind : StageKind) × (o ≡ Some kind)
    × (is_sender shape kind s ≡ true)
speaks-kind shape None s e = absurd cc
speaks-kind shape (Some kind) s e = (kind, refl, e)

-- a slot stands at its number
pub slot_at-number : (shape : Shape) (stage sender : ℕ) → is_slot shape stage sender ≡ true
    → slot_at shape (slot_number shape stage sender) ≡ Some (record { stage = stage; sender = sender })
slot_at-number shape stage sender e =
    let k = speaks-kind shape (kind_of_stage shape stage) sender e in
    let place : place_in (kind_of_stage shape stage) sender ≡ place_in (Some k.0) sender = ap (λ (o : Option StageKind). place_in o sender)
    k.1 in
    let first : 0 + stage ≡ stage = omega arith in
    ap (λ (p : ℕ). slot_at shape (slots_before shape stage + p)) place
    ∙ slot-in_order shape 0 (stages shape) stage (place_in (Some k.0) sender) sender k.0 k.1 (sender-at shape k.0 sender k.2)
    ∙ ap (λ (t : ℕ). Some (record { stage = t; sender = sender })) first

-- what stands at a number is a slot of this number
pub slot_at-is : (shape : Shape) (number : ℕ) (slot : Slot) → slot_at shape number ≡ Some slot
    → (is_slot shape slot.stage slot.sender ≡ true) × (slot_number shape slot.stage slot.sender ≡ number)
slot_at-is shape number slot e =
    let f = slot-found shape 0 (stages shape) number slot e in
    let stage : slot.stage ≡ f.index = omega (arith, f.stage_is) in
    let kind : kind_of_stage shape slot.stage ≡ Some f.kind = ap (λ (t : ℕ). kind_of_stage shape t) stage ∙ f.kind_is in
    let s = at-sender shape f.kind f.place slot.sender f.sender_is in
    let place : place_in (kind_of_stage shape slot.stage) slot.sender ≡ f.place = ap (λ (o : Option StageKind). place_in o slot.sender) kind
    ∙ s.1 in
    let before : slots_before shape slot.stage ≡ slots_before shape f.index = ap (λ (t : ℕ). slots_before shape t) stage in (
      ap (λ (o : Option StageKind). speaks shape o slot.sender) kind ∙ s.0,
      omega (arith, place, before, f.number_is),
    )

-- ---- how many there are

turns-count : (shape : Shape) (shuffle a n : ℕ) → sum_by (senders_of shape) (map (λ k. Shuffle shuffle k) (range_with_len a n)) ≡ n
turns-count shape shuffle a zero = refl
turns-count shape shuffle a (suc n) =
    omega (
      arith,
      sum_by-cons (senders_of shape) (Shuffle shuffle a) (map (λ k. Shuffle shuffle k) (range_with_len (a + 1) n)),
      turns-count
          shape shuffle (a + 1) n,
    )

pub length-slots_of : (shape : Shape) → length (slots_of shape) ≡ slot_count shape
length-slots_of shape = length-slots_from shape 0 (stages shape) ∙ counted shape
  where
    counted : (shape : Shape) → sum_by (senders_of shape) (stages shape) ≡ slot_count shape
    counted shape =
        let f : StageKind → ℕ = senders_of shape in
        let n : ℕ = shape.members in
        let last : List StageKind = Go 2 ∷ Final 2 ∷ [] in
        let middle : List StageKind = Go 1 ∷ Final 1 ∷ Pad ∷ Check ∷ Confirm ∷ Submit 2 ∷ [] in
        let first : List StageKind = Keys ∷ Submit 1 ∷ [] in
        let b : List StageKind = turns 2 n ++ last in
        let m : List StageKind = middle ++ b in
        let a : List StageKind = turns 1 n ++ m in
        omega (
          arith,
          sum_by-append f first a,
          sum_by-append f (turns 1 n) m,
          sum_by-append f middle b,
          sum_by-append f (turns 2 n) last,
          turns-count shape 1 1 n,
          turns-count shape 2 1 n,
        )

-- ---- in which order

-- later stages have as many slots before them, or more
pub slots_before-rises : (shape : Shape) (stage later : ℕ) → stage ≤ later → slots_before shape stage ≤ slots_before shape later
slots_before-rises shape stage later le =
    let front : slots_before shape stage ≡ sum_by (senders_of shape) (take stage (take later (stages shape))) = ap
    (sum_by (senders_of shape)) (sym (take-take stage later (stages shape) le)) in
    omega (arith, sum_by-take-le (senders_of shape) (take later (stages shape)) stage, front)

-- a slot stands among those of its stage
pub slot_number-within : (shape : Shape) (stage sender : ℕ) → is_slot shape stage sender ≡ true
    → (slots_before shape stage ≤ slot_number shape stage sender) × (slot_number shape stage sender < slots_before shape (stage + 1))
slot_number-within shape stage sender e =
    let k = speaks-kind shape (kind_of_stage shape stage) sender e in
    let place : place_in (kind_of_stage shape stage) sender ≡ place_in (Some k.0) sender = ap (λ (o : Option StageKind). place_in o sender)
    k.1 in
    let within : place_in (Some k.0) sender < length (senders_in shape k.0) = slice_get_within (senders_in shape k.0)
    (place_in (Some k.0) sender) sender (sender-at shape k.0 sender k.2) in
    let next = slots_next shape stage k.0 k.1 in
    (omega arith, omega (arith, length-senders_in shape k.0))

-- slot numbers rise with the stage
pub slot_number-later : (shape : Shape) (stage later sender other : ℕ) → is_slot shape stage sender ≡ true
    → is_slot shape later other ≡ true → stage < later → slot_number shape stage sender < slot_number shape later other
slot_number-later shape stage later sender other e e' lt =
    omega (
      arith,
      (slot_number-within shape stage sender e).1,
      slots_before-rises shape (stage + 1) later (omega arith),
      (slot_number-within shape later other e').0,
    )

place-rises : (shape : Shape) (kind : StageKind) (s t : ℕ) → is_sender shape kind s ≡ true → is_sender shape kind t ≡ true → s < t
    → place_in (Some kind) s < place_in (Some kind) t
place-rises shape (Shuffle shuffle k) s t e e' lt = absurd (omega (arith, eqb-true s k e, eqb-true t k e'))
place-rises shape Keys s t e e' lt = let least = leb-true 1 s (and_parts (nat_le 1 s) (nat_le s shape.members) e).0 in omega arith
place-rises shape (Submit shuffle) s t e e' lt = let least = leb-true 1 s (and_parts (nat_le 1 s) (nat_le s shape.members) e).0 in omega
    arith
place-rises shape (Go shuffle) s t e e' lt = let least = leb-true 1 s (and_parts (nat_le 1 s) (nat_le s shape.members) e).0 in omega arith
place-rises shape (Final shuffle) s t e e' lt = let least = leb-true 1 s (and_parts (nat_le 1 s) (nat_le s shape.members) e).0 in omega
    arith
place-rises shape Pad s t e e' lt = let least = leb-true 1 s (and_parts (nat_le 1 s) (nat_le s shape.members) e).0 in omega arith
place-rises shape Check s t e e' lt = let least = leb-true 1 s (and_parts (nat_le 1 s) (nat_le s shape.members) e).0 in omega arith
place-rises shape Confirm s t e e' lt = let least = leb-true 1 s (and_parts (nat_le 1 s) (nat_le s shape.members) e).0 in omega arith

-- and within a stage with the sender
pub slot_number-rises : (shape : Shape) (stage sender other : ℕ) → is_slot shape stage sender ≡ true → is_slot shape stage other ≡ true
    → sender < other → slot_number shape stage sender < slot_number shape stage other
slot_number-rises shape stage sender other e e' lt =
    let k = speaks-kind shape (kind_of_stage shape stage) sender e in
    let sends : is_sender shape k.0 other ≡ true = sym (ap (λ (o : Option StageKind). speaks shape o other) k.1) ∙ e' in
    let place = ap (λ (o : Option StageKind). place_in o sender) k.1 in
    let place' = ap (λ (o : Option StageKind). place_in o other) k.1 in
    omega (arith, place-rises shape k.0 sender other k.2 sends lt, place, place')

-- ---- how many stages there are

pub length-stages : (shape : Shape) → length (stages shape) ≡ stage_count shape
length-stages shape =
    let n : ℕ = shape.members in
    let last : List StageKind = Go 2 ∷ Final 2 ∷ [] in
    let middle : List StageKind = Go 1 ∷ Final 1 ∷ Pad ∷ Check ∷ Confirm ∷ Submit 2 ∷ [] in
    let b : List StageKind = turns 2 n ++ last in
    omega (
      arith,
      length-append (turns 1 n) (middle ++ b),
      length-append middle b,
      length-append (turns 2 n) last,
      length-map-range_with_len
          (λ k. Shuffle 1 k) 1 n,
      length-map-range_with_len (λ k. Shuffle 2 k) 1 n,
    )

-- a round has the stages of lower numbers, and no others
pub stage-past : (shape : Shape) (stage : ℕ) → stage_count shape ≤ stage → kind_of_stage shape stage ≡ None
stage-past shape stage le = slice_get_past (stages shape) stage (omega (arith, length-stages shape))

pub past-stage : (shape : Shape) (stage : ℕ) → kind_of_stage shape stage ≡ None → stage_count shape ≤ stage
past-stage shape stage none =
    elim (cases_lt stage (stage_count shape)) [
      | inl lt ↦ absurd (at_least shape stage (slice_get_cases (stages shape) stage).1 lt none)
      | inr le ↦ le
    ]
  where
    at_least : (shape : Shape) (stage : ℕ) → (((kind : StageKind) × (stage < length (stages shape))
        × (kind_of_stage shape stage ≡ Some kind) × (get_or (stages shape) stage kind ≡ kind))
        ⊎ ((length (stages shape) ≤ stage) × (kind_of_stage shape stage ≡ None))) → stage < stage_count shape
        → kind_of_stage shape stage ≡ None → ⊥
    at_least shape stage (inl x) lt none = let some = x.2 in cc
    at_least shape stage (inr x) lt none = absurd (omega (arith, length-stages shape))

-- before the end of a round stand all its slots, and never more
pub slots_before-past : (shape : Shape) (stage : ℕ) → stage_count shape ≤ stage → slots_before shape stage ≡ slot_count shape
slots_before-past shape stage le =
    ap (sum_by (senders_of shape)) (take_all stage (stages shape) (omega (arith, length-stages shape)))
    ∙ sym (length-slots_from shape 0 (stages shape)) ∙ length-slots_of shape

pub slots_before-most : (shape : Shape) (stage : ℕ) → slots_before shape stage ≤ slot_count shape
slots_before-most shape stage =
    omega (arith, sum_by-take-le (senders_of shape) (stages shape) stage, length-slots_from shape 0 (stages shape), length-slots_of shape)

-- the number of a slot is below the number of slots
pub slot_number-most : (shape : Shape) (stage sender : ℕ) → is_slot shape stage sender ≡ true
    → slot_number shape stage sender < slot_count shape
slot_number-most shape stage sender e =
    omega (
      arith,
      slice_get_within (slots_of shape) (slot_number shape stage sender) (record { stage = stage; sender = sender })
          (slot_at-number shape stage sender e),
      length-slots_of shape,
    )

-- ---- by place

-- the slot of the sender at a place of a stage
pub slot_at-place : (shape : Shape) (stage place sender : ℕ) (kind : StageKind) → kind_of_stage shape stage ≡ Some kind
    → slice_get (senders_in shape kind) place ≡ Some sender
    → slot_at shape (slots_before shape stage + place) ≡ Some (record { stage = stage; sender = sender })
slot_at-place shape stage place sender kind is at =
    let first : 0 + stage ≡ stage = omega arith in
    slot-in_order shape 0 (stages shape) stage place sender kind is at ∙ ap (λ (t : ℕ). Some (record { stage = t; sender = sender })) first

-- who speaks at a place where all members do
pub member-in : (n place : ℕ) → place < n → slice_get (range_with_len 1 n) place ≡ Some (place + 1)
member-in n place lt = let e : 1 + place ≡ place + 1 = omega arith in in_range 1 n place lt ∙ ap (λ (k : ℕ). Some k) e
