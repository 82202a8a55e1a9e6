-- Which slots a closing content embeds, and how many posts.
use Rattle.std.proofs.Common.{◌≡◌, ℕ, zero, suc, ◌+◌, ◌-◌, ◌<◌, ◌≤◌, true, false, List, [], ◌∷◌, length, take, drop, get_or, Some, refl, ap, sym, ◌∙◌, subst, arith, inl, inr}
use Rattle.std.specs.Prelude.{◌↔◌, Contains, IsTrue}
use Rattle.std.specs.List.{slice_get, slice_range}
use Rattle.std.proofs.lemmas.Bool.{cases_lt, cond-true, cond-false}
use Rattle.std.proofs.lemmas.Option.{slice_get_read}
use Rattle.phase_message.specs.declared.content.Content.{Content}
use Rattle.phase_message.specs.declared.stage.Slot.{Slot}
use Rattle.phase_message.specs.Shape.{Shape}
use Rattle.phase_message.specs.Slots.{slot_at, slot_number, slots_before, slots_of}
use Rattle.phase_message.specs.Stages.{is_slot}
use Rattle.phase_message.proofs.SlotLists.{slot_at-is, slot_at-number, slot_number-within, slots_before-rises}
use Rattle.stage_log.proofs.Views.{slice_get-take}
use Rattle.go_nogo.specs.Closing.{IsClosing, is_assent, slots_embedded}
use Rattle.go_nogo.proofs.Justification.{votes-before}
use Rattle.go_nogo.proofs.VoteSlots.{get_drop}

-- ---- members of a part of a list

contains-get : {A : Type 0} (xs : List A) (x : A) → Contains xs x → (k : ℕ) × (slice_get xs k ≡ Some x)
contains-get {A} xs x there = (there.0, at xs there.0 x there.1 there.2)
  where
    at : (xs : List A) (k : ℕ) (x : A) → k < length xs → get_or xs k x ≡ x → slice_get xs k ≡ Some x
    at xs k x lt e = slice_get_read xs (length xs) k x refl lt (sym e)

get-contains : {A : Type 0} (xs : List A) (k : ℕ) (x : A) → slice_get xs k ≡ Some x → Contains xs x
get-contains {A} [] k x e = absurd cc
get-contains {A} (y ∷ ys) zero x e = let same : y ≡ x = cc in (0, omega arith, same)
get-contains {A} (y ∷ ys) (suc k) x e = let more = get-contains ys k x e in (suc more.0, omega (arith, more.1), more.2)

take-get : {A : Type 0} (xs : List A) (n k : ℕ) (x : A) → slice_get (take n xs) k ≡ Some x → (k < n) × (slice_get xs k ≡ Some x)
take-get xs zero k x e = absurd cc
take-get [] (suc n) k x e = absurd cc
take-get (y ∷ ys) (suc n) zero x e = (omega arith, e)
take-get (y ∷ ys) (suc n) (suc k) x e = let more = take-get ys n k x e in (omega (arith, more.0), more.1)

-- the slots of a part are those with a number in it
part-slots : (shape : Shape) (a b : ℕ) (slot : Slot) → Contains (slice_range (slots_of shape) a b) slot
    → IsTrue (is_slot shape slot.stage slot.sender) × (a ≤ slot_number shape slot.stage slot.sender)
    × (slot_number shape slot.stage slot.sender < b)
part-slots shape a b slot there =
    let at = contains-get (slice_range (slots_of shape) a b) slot there in
    let front = take-get (drop a (slots_of shape)) (b - a) at.0 slot at.1 in
    let found = slot_at-is shape (a + at.0) slot (sym (get_drop (slots_of shape) a at.0) ∙ front.1) in
    (found.0, omega (arith, found.1), omega (arith, found.1, front.0))

slots-part : (shape : Shape) (a b : ℕ) (slot : Slot) → is_slot shape slot.stage slot.sender ≡ true
    → a ≤ slot_number shape slot.stage slot.sender → slot_number shape slot.stage slot.sender < b
    → Contains (slice_range (slots_of shape) a b) slot
slots-part shape a b slot speaks least below =
    let number : ℕ = slot_number shape slot.stage slot.sender in
    let split : a + (number - a) ≡ number = omega arith in
    get-contains (slice_range (slots_of shape) a b) (number - a) slot
    (slice_get-take (drop a (slots_of shape)) (b - a) (number - a) (omega arith)
    ∙ get_drop (slots_of shape) a (number - a)
    ∙ ap (slot_at shape) split
    ∙ slot_at-number shape slot.stage slot.sender speaks)

-- ---- by the stage

-- a slot that comes before a stage's slots is of an earlier stage
earlier-number : (shape : Shape) (slot : Slot) (stage : ℕ) → is_slot shape slot.stage slot.sender ≡ true
    → slot_number shape slot.stage slot.sender < slots_before shape stage → slot.stage < stage
earlier-number shape slot stage speaks below =
    let within = slot_number-within shape slot.stage slot.sender speaks in
    elim (cases_lt slot.stage stage) [
      | inl lt ↦ lt
      | inr le ↦ absurd (omega (arith, within.0, within.1, slots_before-rises shape stage slot.stage le))
    ]

later-number : (shape : Shape) (slot : Slot) (stage : ℕ) → is_slot shape slot.stage slot.sender ≡ true
    → slots_before shape stage ≤ slot_number shape slot.stage slot.sender → stage ≤ slot.stage
later-number shape slot stage speaks least =
    let within = slot_number-within shape slot.stage slot.sender speaks in
    elim (cases_lt slot.stage stage) [
      | inl lt ↦ absurd (omega (arith, within.0, within.1, slots_before-rises shape (slot.stage + 1) stage (omega arith)))
      | inr le ↦ le
    ]

pub assent-slots : (shape : Shape) (content : Content) (slot : Slot) → IsClosing shape content → IsTrue (is_assent content.body)
    → Contains (slots_embedded shape content) slot ↔ (IsTrue (is_slot shape slot.stage slot.sender)
    × (slot.stage + 1 ≡ content.header.stage))
assent-slots shape content slot closing assents =
    let least = (votes-before shape content closing).0 in
    let stage : ℕ = content.header.stage - 1 in
    let part : List Slot = slice_range (slots_of shape) (slots_before shape stage) (slots_before shape (stage + 1)) in
    let own : slots_embedded shape content ≡ part = cond-true (is_assent content.body) _ _ assents in (
      λ there.
          let within = part-slots shape (slots_before shape stage) (slots_before shape (stage + 1)) slot
          (subst (λ (xs : List Slot). Contains xs slot) own there) in
          let low = later-number shape slot stage within.0 within.1 in
          let high = earlier-number shape slot (stage + 1) within.0 within.2 in
          (within.0, omega (arith, low, high, least)),
      λ is.
          let within = slot_number-within shape slot.stage slot.sender is.0 in
          let same : slot.stage ≡ stage = omega (arith, is.1, least) in
          let first = ap (slots_before shape) same in
          let next = ap (λ (t : ℕ). slots_before shape (t + 1)) same in
          subst (λ (xs : List Slot). Contains xs slot) (sym own)
          (slots-part shape (slots_before shape stage) (slots_before shape (stage + 1)) slot is.0 (omega (arith, within.0, first))
          (omega (arith, within.1, next))),
    )

pub objection-slots : (shape : Shape) (content : Content) (slot : Slot) → is_assent content.body ≡ false
    → Contains (slots_embedded shape content) slot ↔ (IsTrue (is_slot shape slot.stage slot.sender) × (slot.stage < content.header.stage))
objection-slots shape content slot objects =
    let stage : ℕ = content.header.stage in
    let part : List Slot = slice_range (slots_of shape) 0 (slots_before shape stage) in
    let all : slots_before shape stage ≡ slots_before shape stage - 0 = omega arith in
    let own : slots_embedded shape content ≡ take (slots_before shape stage) (slots_of shape) = cond-false (is_assent content.body) _ _
    objects in
    let front : slots_embedded shape content ≡ part = own ∙ ap (λ (k : ℕ). take k (slots_of shape)) all in (
      λ there.
          let within = part-slots shape 0 (slots_before shape stage) slot (subst (λ (xs : List Slot). Contains xs slot) front there) in
          (within.0, earlier-number shape slot stage within.0 within.2),
      λ is.
          let within = slot_number-within shape slot.stage slot.sender is.0 in
          subst (λ (xs : List Slot). Contains xs slot) (sym front)
          (slots-part shape 0 (slots_before shape stage) slot is.0 (omega arith)
          (omega (arith, within.0, within.1, slots_before-rises shape (slot.stage + 1) stage (omega (arith, is.1))))),
    )
