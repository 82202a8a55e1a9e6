-- What a log keeps where nothing was put yet, and where one slot was filled.
use Rattle.std.proofs.Common.{◌≡◌, ℕ, zero, suc, true, List, [], ◌∷◌, Option, Some, None, ◌⊎◌, inl, inr, refl, ap, sym, ◌∙◌}
use Rattle.std.specs.Prelude.{replicate}
use Rattle.std.specs.List.{slice_get, slice_set}
use Rattle.std.specs.Option.{option_flatten}
use Rattle.std.proofs.lemmas.Bool.{cases_Bool, cond-false, cond-true}
use Rattle.std.proofs.lemmas.Option.{none-some}
use Rattle.phase_message.specs.declared.post.Post.{Post}
use Rattle.phase_message.specs.declared.stage.Slot.{Slot}
use Rattle.phase_message.specs.Shape.{Shape}
use Rattle.phase_message.specs.Slots.{slot_at, slot_count, slot_number}
use Rattle.phase_message.specs.Stages.{is_slot}
use Rattle.phase_message.proofs.SlotLists.{slot_at-number}
use Rattle.stage_log.specs.Table.{Log, empty_log, filled, kept_in}

-- ---- places

flatten-some : {A : Type 0} (o : Option (Option A)) (x : A) → option_flatten o ≡ Some x → o ≡ Some (Some x)
flatten-some (Some (Some y)) x e = ap (λ (o : Option _). Some o) e
flatten-some (Some None) x e = absurd cc
flatten-some None x e = absurd cc

-- what stands at a place of a list in which one value was set
get-set : {A : Type 0} (xs : List A) (k i : ℕ) (y x : A) → slice_get (slice_set xs k y) i ≡ Some x → (slice_get xs i ≡ Some x)
    ⊎ ((i ≡ k) × (x ≡ y))
get-set [] k i y x e = absurd cc
get-set (z ∷ xs) zero zero y x e = inr (refl, cc)
get-set (z ∷ xs) zero (suc i) y x e = inl e
get-set (z ∷ xs) (suc k) zero y x e = inl e
get-set (z ∷ xs) (suc k) (suc i) y x e =
    elim (get-set xs k i y x e) [
      | inl old ↦ inl old
      | inr new ↦ inr (ap (λ (n : ℕ). suc n) new.0, new.1)
    ]

nothing-there : {A : Type 0} (n i : ℕ) (x : A) → slice_get (replicate n None) i ≡ Some (Some x) → ⊥
nothing-there zero i x e = absurd cc
nothing-there (suc n) zero x e = absurd cc
nothing-there (suc n) (suc i) x e = nothing-there n i x e

-- ---- slots

-- what is kept stands in a slot
pub kept-slot : (log : Log) (slot : Slot) (post : Post) → kept_in log slot ≡ Some post → is_slot log.shape slot.stage slot.sender ≡ true
kept-slot log slot post e = elim (cases_Bool (is_slot log.shape slot.stage slot.sender)) [
  | inl speaks ↦ speaks
  | inr silent ↦ absurd (none-some post (sym (cond-false (is_slot log.shape slot.stage slot.sender)
      (option_flatten (slice_get log.posts (slot_number log.shape slot.stage slot.sender))) None silent) ∙ e))
]

-- the place of a slot that a log keeps has the post
kept-entry : (log : Log) (slot : Slot) (post : Post) → kept_in log slot ≡ Some post
    → slice_get log.posts (slot_number log.shape slot.stage slot.sender) ≡ Some (Some post)
kept-entry log slot post e =
    let entry : Option (Option Post) = slice_get log.posts (slot_number log.shape slot.stage slot.sender) in
    flatten-some entry post (sym (cond-true (is_slot log.shape slot.stage slot.sender) (option_flatten entry) None
    (kept-slot log slot post e)) ∙ e)

-- slots of one number are one
pub one-slot : (shape : Shape) (slot other : Slot) → is_slot shape slot.stage slot.sender ≡ true
    → is_slot shape other.stage other.sender ≡ true
    → slot_number shape other.stage other.sender ≡ slot_number shape slot.stage slot.sender → other ≡ slot
one-slot shape slot other speaks other_speaks e =
    let at : Some other ≡ Some slot = sym (slot_at-number shape other.stage other.sender other_speaks) ∙ ap (slot_at shape) e
    ∙ slot_at-number shape slot.stage slot.sender speaks in
    cc

-- ---- what is kept

pub empty-keeps : (shape : Shape) (slot : Slot) (post : Post) → kept_in (empty_log shape) slot ≡ Some post → ⊥
empty-keeps shape slot post e =
    nothing-there (slot_count shape) (slot_number shape slot.stage slot.sender) post (kept-entry (empty_log shape) slot post e)

-- what a log keeps once a place is filled was kept before, or is the post that filled it, in a slot of that number
kept-there : (log : Log) (slot other : Slot) (post kept : Post) → kept_in (filled log slot post) other ≡ Some kept
    → (kept_in log other ≡ Some kept)
    ⊎ ((slot_number log.shape other.stage other.sender ≡ slot_number log.shape slot.stage slot.sender) × (kept ≡ post))
kept-there log slot other post kept e =
    let there = kept-slot (filled log slot post) other kept e in
    let number : ℕ = slot_number log.shape other.stage other.sender in
    elim (get-set log.posts (slot_number log.shape slot.stage slot.sender) number (Some post) (Some kept)
    (kept-entry (filled log slot post) other kept e)) [
      | inl old ↦ inl (cond-true (is_slot log.shape other.stage other.sender) (option_flatten (slice_get log.posts number)) None there
          ∙ ap option_flatten old)
      | inr new ↦ inr (new.0, cc)
    ]

-- or is the post that filled it
pub kept-post : (log : Log) (slot other : Slot) (post kept : Post) → kept_in (filled log slot post) other ≡ Some kept
    → (kept_in log other ≡ Some kept) ⊎ (kept ≡ post)
kept-post log slot other post kept e = elim (kept-there log slot other post kept e) [
  | inl old ↦ inl old
  | inr new ↦ inr new.1
]

-- and stands in the slot that was filled
pub kept-filled : (log : Log) (slot other : Slot) (post kept : Post) → is_slot log.shape slot.stage slot.sender ≡ true
    → kept_in (filled log slot post) other ≡ Some kept
    → (kept_in log other ≡ Some kept) ⊎ ((other ≡ slot) × (kept ≡ post))
kept-filled log slot other post kept speaks e = elim (kept-there log slot other post kept e) [
  | inl old ↦ inl old
  | inr new ↦ inr (one-slot log.shape slot other speaks (kept-slot (filled log slot post) other kept e) new.0, new.1)
]
