-- What is kept while a slot is raised: the other slot stands.
use Rattle.std.proofs.Common.{◌≡◌, ◌≢◌, ◌⊎◌, inl, inr, ⊎_elim, ℕ, ◌+◌, ◌<◌, ◌≤◌, max, Bool, true, false, List, Ok, length, refl, sym, ap, ◌∙◌, subst, arith}
use Rattle.std.specs.Prelude.{◌||◌, ◌&&◌, ◌==◌, nat_lt, nat_le, if◌then◌else◌}
use Rattle.std.proofs.lemmas.Bool.Decides.{nat_tests}
use Rattle.lms_tree.specs.declared.secrets.MadeHeight.{MadeHeight}
use Rattle.lms_tree.specs.States.{made_leaves}
use Rattle.key_store.specs.declared.layout.Slot.{Slot}
use Rattle.key_store.specs.declared.layout.Standing.{Standing}
use Rattle.key_store.specs.declared.layout.KeyContent.{KeyContent}
use Rattle.crash_disk.specs.Disk.{IsTorn}
use Rattle.key_store.specs.KeyFiles.{IsSlot, counted, greatest, head_read, is_valid, key_read, slot_at, slot_for, stands}
use Rattle.key_store.specs.Crashes.{ArePaired, IsAbove, Keeps}
use Rattle.key_store.proofs.Parts.{IsApart, apart_within}
use Rattle.key_store.proofs.Raised.{before_slot, content_raised, head_same, or_true, read_raised, slot_within, was_read}
use Rattle.key_store.proofs.Slots.{same_byte, same_slot, same_word}
use Rattle.key_store.proofs.Torn.{length-torn, part-torn}

-- a valid slot that has the numbers of a standing
pub record Shows (leaves : ℕ) (slot : Slot) (kept : Standing) : Type 0 where
  pub valid : is_valid leaves slot ≡ true
  pub is_open : slot.gate ≡ 1
  pub round : kept.round ≡ slot.round
  pub next : kept.next ≡ slot.next

valid_gate : (leaves : ℕ) (slot : Slot) → is_valid leaves slot ≡ true → slot.gate ≡ 1
valid_gate leaves slot valid = both (slot.gate == 1) (nat_le slot.next leaves) valid refl
  where
    both : (a b : Bool) → (a && b) ≡ true → (slot.gate == 1) ≡ a → slot.gate ≡ 1
    both true b h is = grind (arith, nat_tests)
    both false b h is = absurd (cc)

-- of two paired slots the one that is not chosen is valid, and shows what both stand for
abbrev pub OtherShows : (leaves : ℕ) (a b : Slot) (at : ℕ) (kept : Standing) → Type 0
OtherShows leaves a b at kept = ((at ≡ 64) × Shows leaves b kept) ⊎ ((at ≡ 96) × Shows leaves a kept)

-- the slot that is chosen and what a slot counts for, by the tests
abbrev number_by : Bool → Bool → Bool → ℕ
number_by va vb lt = if va then (if vb then (if lt then 64 else 96) else 96) else 64

abbrev counts_by : Bool → Slot → Standing
counts_by v slot = if v then record { round = slot.round; next = slot.next } else record { round = 0; next = 0 }

pub other_shows : (leaves : ℕ) (a b : Slot) (at : ℕ) → ArePaired a b → (is_valid leaves a || is_valid leaves b) ≡ true
    → at ≡ slot_for a b leaves → OtherShows leaves a b at (greatest (counted leaves a) (counted leaves b))
other_shows leaves a b at paired some is = by_cases (is_valid leaves a) (is_valid leaves b) (nat_lt a.next b.next) refl refl refl some is
  where
    below : (x y : ℕ) → x < y → max x y ≡ y
    below x y h = omega arith

    above : (x y : ℕ) → y < x → max x y ≡ x
    above x y h = omega arith

    by_cases : (va vb lt : Bool) → is_valid leaves a ≡ va → is_valid leaves b ≡ vb → nat_lt a.next b.next ≡ lt → (va || vb) ≡ true
        → at ≡ number_by va vb lt → OtherShows leaves a b at (greatest (counts_by va a) (counts_by vb b))
    by_cases false false lt ea eb el some is = absurd (cc)
    by_cases false true lt ea eb el some is = inl (
      is,
      record {
        valid = eb;
        is_open = valid_gate leaves b eb;
        round = omega arith;
        next =
            omega arith;
      },
    )
    by_cases true false lt ea eb el some is = inr (
      is,
      record {
        valid = ea;
        is_open = valid_gate leaves a ea;
        round = omega arith;
        next =
            omega arith;
      },
    )
    by_cases true true true ea eb el some is =
        let gate_a = valid_gate leaves a ea in
        let gate_b = valid_gate leaves b eb in
        let lower : a.next < b.next = grind (arith, nat_tests) in
        let over : IsAbove b a = ⊎_elim (λ wrong. absurd (no wrong.1 lower)) (λ right. right)
        (paired (open_gate a gate_a) (open_gate b gate_b)) in
        inl (is, record { valid = eb; is_open = gate_b; round = below a.round b.round over.0; next = below a.next b.next over.1 })
      where
        no : b.next < a.next → a.next < b.next → ⊥
        no p q = omega arith

        open_gate : (s : Slot) → s.gate ≡ 1 → s.gate ≢ 0
        open_gate s e z = omega arith
    by_cases true true false ea eb el some is =
        let gate_a = valid_gate leaves a ea in
        let gate_b = valid_gate leaves b eb in
        let no_lower : b.next ≤ a.next = grind (arith, nat_tests) in
        let over : IsAbove a b = ⊎_elim (λ right. right) (λ wrong. absurd (no wrong.1 no_lower))
        (paired (open_gate a gate_a) (open_gate b gate_b)) in
        inr (is, record { valid = ea; is_open = gate_a; round = above a.round b.round over.0; next = above a.next b.next over.1 })
      where
        no : a.next < b.next → b.next ≤ a.next → ⊥
        no p q = omega arith

        open_gate : (s : Slot) → s.gate ≡ 1 → s.gate ≢ 0
        open_gate s e z = omega arith

-- a slot whose gate is not closed is above what is kept, or below it
abbrev pub IsBeside : Slot → Standing → Type 0
IsBeside slot kept = slot.gate ≢ 0 → ((kept.round < slot.round) × (kept.next < slot.next))
    ⊎ ((slot.round < kept.round) × (slot.next < kept.next))

-- two slots of which one shows what is kept
pub record StillKept (leaves : ℕ) (a b : Slot) (kept : Standing) : Type 0 where
  pub valid : (is_valid leaves a || is_valid leaves b) ≡ true
  pub round : kept.round ≤ (greatest (counted leaves a) (counted leaves b)).round
  pub next : kept.next ≤ (greatest (counted leaves a) (counted leaves b)).next
  pub paired : ArePaired a b

pub second_keeps : (leaves : ℕ) (a b : Slot) (kept : Standing) → Shows leaves b kept → IsBeside a kept → StillKept leaves a b kept
second_keeps leaves a b kept shows beside = record {
  valid = rw shows.valid (or_true (is_valid leaves a));
  round = rw (shows.valid, shows.round) (right (counted leaves a).round b.round);
  next = rw (shows.valid, shows.next) (right (counted leaves a).next b.next);
  paired = λ gate_a gate_b. ⊎_elim (λ up. inl (rise up)) (λ down. inr (fall down)) (beside gate_a);
}
  where
    right : (x y : ℕ) → y ≤ max x y
    right x y = omega arith

    rise : (kept.round < a.round) × (kept.next < a.next) → IsAbove a b
    rise up = (omega (arith, up.0, shows.round), omega (arith, up.1, shows.next))

    fall : (a.round < kept.round) × (a.next < kept.next) → IsAbove b a
    fall down = (omega (arith, down.0, shows.round), omega (arith, down.1, shows.next))

pub first_keeps : (leaves : ℕ) (a b : Slot) (kept : Standing) → Shows leaves a kept → IsBeside b kept → StillKept leaves a b kept
first_keeps leaves a b kept shows beside = record {
  valid = rw shows.valid refl;
  round = rw (shows.valid, shows.round) (left a.round (counted leaves b).round);
  next = rw (shows.valid, shows.next) (left a.next (counted leaves b).next);
  paired = λ gate_a gate_b. ⊎_elim (λ up. inr (rise up)) (λ down. inl (fall down)) (beside gate_b);
}
  where
    left : (x y : ℕ) → x ≤ max x y
    left x y = omega arith

    rise : (kept.round < b.round) × (kept.next < b.next) → IsAbove b a
    rise up = (omega (arith, up.0, shows.round), omega (arith, up.1, shows.next))

    fall : (b.round < kept.round) × (b.next < kept.next) → IsAbove a b
    fall down = (omega (arith, down.0, shows.round), omega (arith, down.1, shows.next))

-- ---- files of which a slot differs

-- the slot beside the one that may differ
slot-torn : (file image : List ℕ) (at k : ℕ) → IsTorn file at 13 image → IsApart k 13 at 13 → slot_at image k ≡ slot_at file k
slot-torn file image at k torn apart =
    same_slot image file k
    (part-torn file image at 13 k 1 torn (apart_within k 13 at 13 k 1 apart (omega arith) (omega arith)))
    (part-torn file image at 13 (k + 1) 8 torn (apart_within k 13 at 13 (k + 1) 8 apart (omega arith) (omega arith)))
    (part-torn file image at 13 (k + 9) 4 torn (apart_within k 13 at 13 (k + 9) 4 apart (omega arith) (omega arith)))

head-torn : (file image : List ℕ) (at : ℕ) → length file ≡ 128 → IsSlot at → IsTorn file at 13 image → head_read image ≡ head_read file
head-torn file image at whole slot torn =
    let within : at + 13 ≤ length file = slot_within at (length file) whole slot in
    head_same image file (length-torn file image at 13 torn within)
    (same_word image file 0 (part-torn file image at 13 0 4 torn (before_slot at 0 4 slot (omega arith))))
    (same_byte image file 4 (part-torn file image at 13 4 1 torn (before_slot at 4 1 slot (omega arith))))
    (same_word image file 5 (part-torn file image at 13 5 4 torn (before_slot at 5 4 slot (omega arith))))
    (same_word image file 9 (part-torn file image at 13 9 4 torn (before_slot at 9 4 slot (omega arith))))

still_kept : (leaves : ℕ) (file image : List ℕ) (at : ℕ) (kept : Standing) → IsTorn file at 13 image
    → OtherShows leaves (slot_at file 64) (slot_at file 96) at kept → IsBeside (slot_at image at) kept
    → StillKept leaves (slot_at image 64) (slot_at image 96) kept
still_kept leaves file image at kept torn (inl other) beside =
    let same : slot_at image 96 ≡ slot_at file 96 = slot-torn file image at 96 torn (inr (omega (arith, other.0))) in
    second_keeps leaves (slot_at image 64) (slot_at image 96) kept
    (subst (λ (s : Slot). Shows leaves s kept) (sym same) other.1)
    (subst (λ (k : ℕ). IsBeside (slot_at image k) kept) other.0 beside)
still_kept leaves file image at kept torn (inr other) beside =
    let same : slot_at image 64 ≡ slot_at file 64 = slot-torn file image at 64 torn (inl (omega (arith, other.0))) in
    first_keeps leaves (slot_at image 64) (slot_at image 96) kept
    (subst (λ (s : Slot). Shows leaves s kept) (sym same) other.1)
    (subst (λ (k : ℕ). IsBeside (slot_at image k) kept) other.0 beside)

-- a key file of which at most a slot differs, where the other shows what was kept
pub keeps-torn : (content : KeyContent) (file image : List ℕ) (at : ℕ) → length file ≡ 128 → IsSlot at → key_read file ≡ Ok content
    → OtherShows (made_leaves content.height) (slot_at file 64) (slot_at file 96) at content.kept → IsTorn file at 13 image
    → IsBeside (slot_at image at) content.kept → Keeps content image
unfolding stands
keeps-torn content file image at whole slot read other torn beside =
    let was = was_read file content read in
    let leaves : ℕ = made_leaves (was.types).0 in
    let height : content.height ≡ (was.types).0 = sym (ap (λ (k : KeyContent). k.height) was.content) in
    let still = still_kept leaves file image at content.kept torn
    (subst (λ (h : MadeHeight). OtherShows (made_leaves h) (slot_at file 64) (slot_at file 96) at content.kept) height other) beside in
    record {
      stands = stands leaves image;
      read =
          read_raised image was.types _ (head-torn file image at whole slot torn ∙ was.head) still.valid
          (content_raised was.types file image (stands leaves image)
          (part-torn file image at 13 13 16 torn (before_slot at 13 16 slot (omega arith)))
          (part-torn file image at 13 29 32 torn (before_slot at 29 32 slot (omega arith))) refl
          ∙ ap (λ (k : KeyContent). record k { kept = stands leaves image }) was.content);
      round = still.round;
      next = still.next;
      paired = still.paired;
    }
