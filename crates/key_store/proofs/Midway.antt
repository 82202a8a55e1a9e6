-- What a crash leaves at each moment while a slot is raised.
use Rattle.std.proofs.Common.{◌≡◌, ◌≢◌, ◌⊎◌, inl, inr, ⊎_elim, true, [], ◌∷◌, ℕ, ◌+◌, ◌<◌, ◌≤◌, ◌^◌, List, Option, Some, None, length, take, slice_index, refl, sym, ap, ◌∙◌, subst, arith}
use Rattle.std.specs.Prelude.{option_map}
use Rattle.std.proofs.lemmas.Bool.{cases_eq}
use Rattle.std.proofs.lemmas.List.{get_or-take}
use Rattle.lms_tree.specs.declared.secrets.MadeHeight.{MadeHeight}
use Rattle.lms_tree.specs.States.{made_leaves}
use Rattle.key_store.specs.declared.layout.Slot.{Slot}
use Rattle.key_store.specs.declared.layout.Standing.{Standing}
use Rattle.key_store.specs.declared.layout.KeyContent.{KeyContent}
use Rattle.crash_disk.specs.Disk.{IsTorn, LeavesOf}
use Rattle.key_store.specs.KeyFiles.{IsClosing, IsSlot, Mirrors, closed, numbers, opened, raised, long_at, slot_at, stands, word_at, written, has_valid}
use Rattle.key_store.specs.Crashes.{ArePaired, IsMidway, IsPaired, IsRise, Keeps}
use Rattle.key_store.proofs.Files.{mirror_length, mirrors-overwritten}
use Rattle.crash_disk.proofs.Overwrites.{overwritten_torn}
use Rattle.key_store.proofs.Kept.{IsBeside, OtherShows, keeps-torn, other_shows}
use Rattle.crash_disk.proofs.Moments.{joined, weaker}
use Rattle.key_store.proofs.Parts.{byte-written}
use Rattle.key_store.proofs.Raised.{kept_read, slot_within, was_read}
use Rattle.key_store.proofs.Keys.{few_leaves}
use Rattle.key_store.proofs.Slots.{long-written, same_byte, same_long, same_word, word-written}
use Rattle.key_store.proofs.Torn.{length-torn, part-torn, torn_front, torn_more, torn_wider}
use Rattle.key_store.proofs.TornSlot.{size_of_numbers, written_torn}

-- what a file that may be raised says of its slots
pub record IsReady (content : KeyContent) (file : List ℕ) (at : ℕ) : Type 0 where
  pub slot : IsSlot at
  pub other : OtherShows (made_leaves content.height) (slot_at file 64) (slot_at file 96) at content.kept
  pub beside : IsBeside (slot_at file at) content.kept

slot_is : (leaves : ℕ) (a b : Slot) (at : ℕ) (kept : Standing) → OtherShows leaves a b at kept → IsSlot at
slot_is leaves a b at kept (inl other) = inl other.0
slot_is leaves a b at kept (inr other) = inr other.0

gate_open : (slot : Slot) → slot.gate ≡ 1 → slot.gate ≢ 0
gate_open slot e z = omega arith

ready_beside : (leaves : ℕ) (file : List ℕ) (at : ℕ) (kept : Standing) → ArePaired (slot_at file 64) (slot_at file 96)
    → OtherShows leaves (slot_at file 64) (slot_at file 96) at kept → IsBeside (slot_at file at) kept
ready_beside leaves file at kept paired (inl other) =
    subst (λ (k : ℕ). IsBeside (slot_at file k) kept) (sym other.0)
    (λ gate. ⊎_elim (λ up. inl (omega (arith, up.0, other.1.round), omega (arith, up.1, other.1.next)))
    (λ down. inr (omega (arith, down.0, other.1.round), omega (arith, down.1, other.1.next)))
    (paired gate (gate_open (slot_at file 96) other.1.is_open)))
ready_beside leaves file at kept paired (inr other) =
    subst (λ (k : ℕ). IsBeside (slot_at file k) kept) (sym other.0)
    (λ gate. ⊎_elim (λ down. inr (omega (arith, down.0, other.1.round), omega (arith, down.1, other.1.next)))
    (λ up. inl (omega (arith, up.0, other.1.round), omega (arith, up.1, other.1.next)))
    (paired (gate_open (slot_at file 64) other.1.is_open) gate))

pub ready : (content : KeyContent) (file : List ℕ) (at round next : ℕ) → IsRise content file at round next → IsReady content file at
unfolding stands
ready content file at round next rise =
    let was = was_read file content rise.read in
    let height : (was.types).0 ≡ content.height = ap (λ (k : KeyContent). k.height) was.content in
    let valid : has_valid (made_leaves content.height) file ≡ true = subst (λ (h : MadeHeight). has_valid (made_leaves h) file ≡ true)
    height was.valid in
    let other : OtherShows (made_leaves content.height) (slot_at file 64) (slot_at file 96) at content.kept =
    subst (OtherShows (made_leaves content.height) (slot_at file 64) (slot_at file 96) at) (kept_read file content rise.read)
    (other_shows (made_leaves content.height) (slot_at file 64) (slot_at file 96) at rise.paired valid rise.place) in
    record {
      slot = slot_is (made_leaves content.height) (slot_at file 64) (slot_at file 96) at content.kept other;
      other = other;
      beside = ready_beside (made_leaves content.height) file at content.kept rise.paired other;
    }

-- the numbers of a slot, and its gate
gate_at : (file : List ℕ) (at : ℕ) → (slot_at file at).gate ≡ slice_index file at
unfolding slot_at
gate_at file at = refl

round_at : (file : List ℕ) (at : ℕ) → (slot_at file at).round ≡ long_at file (at + 1)
unfolding slot_at
round_at file at = refl

next_at : (file : List ℕ) (at : ℕ) → (slot_at file at).next ≡ word_at file (at + 9)
unfolding slot_at
next_at file at = refl

-- the same numbers behind any gate
same_numbers : (file image : List ℕ) (at : ℕ) → IsTorn file at 1 image
    → ((slot_at image at).round ≡ (slot_at file at).round) × ((slot_at image at).next ≡ (slot_at file at).next)
same_numbers file image at torn = (
  round_at image at ∙ same_long image file (at + 1) (part-torn file image at 1 (at + 1) 8 torn (inr (omega arith)))
      ∙ sym (round_at file at),
  next_at image at ∙ same_word image file (at + 9) (part-torn file image at 1 (at + 9) 4 torn (inr (omega arith))) ∙ sym (next_at file at),
)

-- ---- in the first 128 bytes

closing_keeps : (content : KeyContent) (file image : List ℕ) (at round next : ℕ) → length file ≡ 128 → IsRise content file at round next
    → IsTorn file at 1 image → (slice_index file at ≡ 0 → image ≡ file) → Keeps content image
closing_keeps content file image at round next whole rise torn already =
    let is = ready content file at round next rise in
    keeps-torn content file image at whole is.slot rise.read is.other (torn_more file image at 1 13 torn (omega arith))
    (by_gate is (cases_eq (slice_index file at) 0))
  where
    by_gate : IsReady content file at → (slice_index file at ≡ 0) ⊎ (slice_index file at ≢ 0) → IsBeside (slot_at image at) content.kept
    by_gate is (inl zero) = λ gate. absurd (gate (gate_at image at ∙ ap (λ (l : List ℕ). slice_index l at) (already zero) ∙ zero))
    by_gate is (inr other) = λ gate.
        let same = same_numbers file image at torn in
        ⊎_elim (λ up. inl (omega (arith, up.0, same.0), omega (arith, up.1, same.1)))
        (λ down. inr (omega (arith, down.0, same.0), omega (arith, down.1, same.1)))
        (is.beside (λ z. other (sym (gate_at file at) ∙ z)))

writing_keeps : (content : KeyContent) (file image : List ℕ) (at round next : ℕ) → length file ≡ 128 → IsRise content file at round next
    → IsTorn (closed file at) (at + 1) 12 image → Keeps content image
writing_keeps content file image at round next whole rise torn =
    let is = ready content file at round next rise in
    let within : at + 13 ≤ length file = slot_within at (length file) whole is.slot in
    let first : IsTorn file at 13 (closed file at) = torn_more file (closed file at) at 1 13
    (overwritten_torn file at (0 ∷ []) (omega (arith, within))) (omega arith) in
    let zero : slice_index image at ≡ 0 =
    same_byte image (closed file at) at (part-torn (closed file at) image (at + 1) 12 at 1 torn (inl (omega arith)))
    ∙ byte-written file at 0 (omega (arith, within)) in
    keeps-torn content file image at whole is.slot rise.read is.other
    (torn_wider file (closed file at) image at 13 (at + 1) 12 first torn (omega arith) (omega arith))
    (λ gate. absurd (gate (gate_at image at ∙ zero)))

opening_keeps : (content : KeyContent) (file image : List ℕ) (at round next : ℕ) → length file ≡ 128 → round < 2 ^ 64
    → IsRise content file at round next
    → IsTorn (written (closed file at) at round next) at 1 image → Keeps content image
opening_keeps content file image at round next whole small rise torn =
    let is = ready content file at round next rise in
    let within : at + 13 ≤ length file = slot_within at (length file) whole is.slot in
    let size : length (closed file at) ≡ length file = length-torn file (closed file at) at 1
    (overwritten_torn file at (0 ∷ []) (omega (arith, within))) (omega (arith, within)) in
    let few = few_leaves content.height in
    let same = same_numbers (written (closed file at) at round next) image at torn in
    let now_round : (slot_at image at).round ≡ round =
    same.0 ∙ round_at (written (closed file at) at round next) at
    ∙ long-written (closed file at) at round next (omega (arith, size, within)) small in
    let now_next : (slot_at image at).next ≡ next =
    same.1 ∙ next_at (written (closed file at) at round next) at
    ∙ word-written (closed file at) at round next (omega (arith, size, within)) (omega (arith, few, rise.enough)) in
    keeps-torn content file image at whole is.slot rise.read is.other
    (torn_wider file (written (closed file at) at round next) image at 13 at 1 (written_torn file at round next within) torn (omega arith)
    (omega arith))
    (λ gate. inl (omega (arith, now_round, rise.later), omega (arith, now_next, rise.higher)))

-- once the gate is open
pub raised_paired : (content : KeyContent) (file : List ℕ) (at round next : ℕ) → length file ≡ 128 → round < 2 ^ 64
    → IsRise content file at round next
    → IsPaired (raised file at round next)
unfolding raised
raised_paired content file at round next whole small rise =
    let within : at + 13 ≤ length file = slot_within at (length file) whole (ready content file at round next rise).slot in
    let size = length-torn file (written (closed file at) at round next) at 13 (written_torn file at round next within) within in
    (opening_keeps content file (opened (written (closed file at) at round next) at) at round next whole small rise
    (overwritten_torn (written (closed file at) at round next) at (1 ∷ []) (omega (arith, size, within)))).paired

-- ---- in a file that a disk tells

module _ (content : KeyContent) (image : List ℕ) (at round next : ℕ) (whole : length image ≡ 128) (small : round < 2 ^ 64)
    (rise : IsRise content image at round next) where
  place : at + 13 ≤ 128
  place = slot_within at 128 refl (ready content image at round next rise).slot

  closing_midway : (file left : List ℕ) → take 128 file ≡ image → IsClosing at file left → IsMidway content at file left
  closing_midway file left mirrors closing =
      let long = mirror_length file image mirrors whole in
      let gate : slice_index image at ≡ 0 → slice_index file at ≡ 0 =
      λ zero. sym (get_or-take 128 file at 0 (omega (arith, place))) ∙ ap (λ (l : List ℕ). slice_index l at) mirrors ∙ zero in
      record {
        beside = torn_more file left at 1 13 closing.beside (omega arith);
        keeps =
            closing_keeps content image (take 128 left) at round next whole rise
            (subst (λ (l : List ℕ). IsTorn l at 1 (take 128 left)) mirrors
            (torn_front file left at 1 closing.beside (omega (arith, place)) long))
            (λ zero. ap (take 128) (closing.closed_already (gate zero)) ∙ mirrors);
      }

  writing_midway : (file left : List ℕ) → take 128 file ≡ image → IsTorn (closed file at) (at + 1) 12 left → IsMidway content at file left
  writing_midway file left mirrors torn =
      let long = mirror_length file image mirrors whole in
      let first : IsTorn file at 1 (closed file at) = overwritten_torn file at (0 ∷ []) (omega (arith, place, long)) in
      let size = length-torn file (closed file at) at 1 first (omega (arith, place, long)) in
      let front : take 128 (closed file at) ≡ closed image at = mirrors-overwritten (Some file) image (0 ∷ []) at whole
      (omega (arith, place)) mirrors in
      record {
        beside = torn_wider file (closed file at) left at 13 (at + 1) 12 (torn_more file (closed file at) at 1 13 first (omega arith)) torn
            (omega arith) (omega arith);
        keeps =
            writing_keeps content image (take 128 left) at round next whole rise
            (subst (λ (l : List ℕ). IsTorn l (at + 1) 12 (take 128 left)) front
            (torn_front (closed file at) left (at + 1) 12 torn (omega (arith, place)) (omega (arith, size, long))));
      }

  opening_midway : (file left : List ℕ) → take 128 file ≡ image → IsTorn (written (closed file at) at round next) at 1 left
      → IsMidway content at file left
  opening_midway file left mirrors torn =
      let long = mirror_length file image mirrors whole in
      let within : at + 13 ≤ length file = omega (arith, place, long) in
      let torn_file = written_torn file at round next within in
      let size = length-torn file (written (closed file at) at round next) at 13 torn_file within in
      let size_image = length-torn image (closed image at) at 1 (overwritten_torn image at (0 ∷ []) (omega (arith, place, whole)))
      (omega (arith, place, whole)) in
      let front_closed : take 128 (closed file at) ≡ closed image at = mirrors-overwritten (Some file) image (0 ∷ []) at whole
      (omega (arith, place)) mirrors in
      let front : take 128 (written (closed file at) at round next) ≡ written (closed image at) at round next =
      mirrors-overwritten (Some (closed file at)) (closed image at) (numbers round next) (at + 1) (size_image ∙ whole)
      (omega (arith, place, size_of_numbers round next)) front_closed in
      record {
        beside = torn_wider file (written (closed file at) at round next) left at 13 at 1 torn_file torn (omega arith) (omega arith);
        keeps =
            opening_keeps content image (take 128 left) at round next whole small rise
            (subst (λ (l : List ℕ). IsTorn l at 1 (take 128 left)) front
            (torn_front (written (closed file at) at round next) left at 1 torn (omega (arith, place)) (omega (arith, size, long))));
      }

  module _ {D : Type 0} (may_leave : D → List ℕ → Type 0) (moment : D → ℕ) (left_since : D → ℕ → List ℕ → Type 0) where
    pub run_closing : (told : Option (List ℕ)) (old new : D) → Mirrors told image → LeavesOf moment left_since told old new (IsClosing at)
        → LeavesOf moment left_since told old new (IsMidway content at)
    run_closing None old new mirrors run = tt
    run_closing (Some file) old new mirrors run =
        weaker may_leave moment left_since old new (IsClosing at file) (IsMidway content at file)
        (λ left closing. closing_midway file left mirrors closing) run

    pub run_writing : (told mid_told : Option (List ℕ)) (old mid new : D) → Mirrors told image
        → mid_told ≡ option_map (λ file. closed file at) told
        → LeavesOf moment left_since told old mid (IsMidway content at)
        → LeavesOf moment left_since mid_told mid new (λ file. IsTorn file (at + 1) 12)
        → LeavesOf moment left_since told old new (IsMidway content at)
    run_writing None mid_told old mid new mirrors is run more = tt
    run_writing (Some file) mid_told old mid new mirrors is run more =
        let step = subst (λ (o : Option (List ℕ)). LeavesOf moment left_since o mid new (λ file. IsTorn file (at + 1) 12)) is more in
        joined may_leave moment left_since old mid new (IsMidway content at file) run
        (weaker may_leave moment left_since mid new (IsTorn (closed file at) (at + 1) 12) (IsMidway content at file)
        (λ left torn. writing_midway file left mirrors torn) step)

    pub run_opening : (told mid_told last_told : Option (List ℕ)) (old mid new : D) → Mirrors told image
        → mid_told ≡ option_map (λ file. closed file at) told
        → last_told ≡ option_map (λ file. written file at round next) mid_told
        → LeavesOf moment left_since told old mid (IsMidway content at)
        → LeavesOf moment left_since last_told mid new (λ file. IsTorn file at 1)
        → LeavesOf moment left_since told old new (IsMidway content at)
    run_opening None mid_told last_told old mid new mirrors is last run more = tt
    run_opening (Some file) mid_told last_told old mid new mirrors is last run more =
        let told_is : last_told ≡ Some (written (closed file at) at round next) = last
        ∙ ap (option_map (λ (l : List ℕ). written l at round next)) is in
        let step = subst (λ (o : Option (List ℕ)). LeavesOf moment left_since o mid new (λ file. IsTorn file at 1)) told_is more in
        joined may_leave moment left_since old mid new (IsMidway content at file) run
        (weaker may_leave moment left_since mid new (IsTorn (written (closed file at) at round next) at 1) (IsMidway content at file)
        (λ left torn. opening_midway file left mirrors torn) step)
