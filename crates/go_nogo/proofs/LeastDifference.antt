-- The first difference of two logs, by stage and then by sender, comes before all others.
use Rattle.std.proofs.Common.{◌≡◌, ℕ, ◌+◌, ◌-◌, ◌<◌, ◌≤◌, Bool, true, false, Option, Some, None, ◌⊎◌, inl, inr, refl, ap, sym, ◌∙◌, subst, arith}
use Rattle.std.specs.Prelude.{MatchOption, bytes_eq, not}
use Rattle.std.proofs.lemmas.Bool.{both_ways, cases_Bool, cases_lt, cond-true, cond-false, false_from_ne_true, not-true}
use Rattle.std.proofs.lemmas.Slice.Eq.{bytes_eq-Decides}
use Rattle.wire_core.proofs.AnswerLemmas.{first_below-each, first_below-found}
use Rattle.phase_message.specs.declared.post.Post.{Post}
use Rattle.phase_message.specs.declared.stage.Slot.{Slot}
use Rattle.phase_message.specs.Slots.{stage_count}
use Rattle.phase_message.proofs.SlotBounds.{slot-bounds}
use Rattle.stage_log.specs.Table.{Log, kept_in}
use Rattle.stage_log.proofs.KeptPosts.{kept-slot}
use Rattle.go_nogo.specs.Differences.{Differ, HaveNoDifference, IsFirstDifference, are_different, difference_at, difference_of, differing}

-- ---- a slot in which two logs differ

differ-found : (log other : Log) (slot : Slot) → Differ log other slot → differing log other slot ≡ Some slot
differ-found log other slot differ =
    let unlike : bytes_eq differ.post.content differ.other_post.content ≡ false = false_from_ne_true _
    (λ same. differ.contents ((bytes_eq-Decides _ _).0 same)) in
    cond-true (are_different (kept_in log slot) (kept_in other slot)) (Some slot) None
    (ap (λ (o : Option Post). are_different o (kept_in other slot)) differ.kept
    ∙ ap (λ (o : Option Post). are_different (Some differ.post) o) differ.other_kept
    ∙ ap not unlike)

posts-differ : (log other : Log) (slot : Slot) (o p : Option Post) → kept_in log slot ≡ o → kept_in other slot ≡ p
    → are_different o p ≡ true → Differ log other slot
posts-differ log other slot (Some post) (Some other_post) e e' is = record {
  post = post;
  other_post = other_post;
  kept = e;
  other_kept = e';
  contents = λ same. both_ways (bytes_eq post.content other_post.content) (not-true (bytes_eq post.content other_post.content) is)
      ((bytes_eq-Decides post.content other_post.content).1 same);
}
posts-differ log other slot (Some post) None e e' is = absurd cc
posts-differ log other slot None p e e' is = absurd cc

found-differ : (log other : Log) (slot found : Slot) → differing log other slot ≡ Some found → (slot ≡ found) × Differ log other slot
found-differ log other slot found e =
    let b : Bool = are_different (kept_in log slot) (kept_in other slot) in
    elim (cases_Bool (are_different (kept_in log slot) (kept_in other slot))) [
      | inl differ ↦
          let both : Some slot ≡ Some found = sym (cond-true b (Some slot) None differ) ∙ e in
          (cc, posts-differ log other slot (kept_in log slot) (kept_in other slot) refl refl differ)
      | inr same ↦ absurd (let none = cond-false b (Some slot) None same in cc)
    ]

-- ---- the first

apart : (o : Option Slot) (x : Slot) → o ≡ None → o ≡ Some x → ⊥
apart None x none some = absurd cc
apart (Some y) x none some = absurd cc

-- no difference comes before a place that has none before it
not-before : (log other : Log) (slot : Slot) → Differ log other slot → difference_at log other slot.stage ≡ None → ⊥
not-before log other slot differ none =
    let bounds = slot-bounds log.shape slot.stage slot.sender (kept-slot log slot differ.post differ.kept) in
    let each = first_below-each (λ place. differing log other (record { stage = slot.stage; sender = place + 1 })) log.shape.members none
    (slot.sender - 1) (omega (arith, bounds.1, bounds.2)) in
    let same : slot.sender - 1 + 1 ≡ slot.sender = omega (arith, bounds.1) in
    let never = ap (λ (s : ℕ). differing log other (record { stage = slot.stage; sender = s })) same in
    let some = differ-found log other slot differ in
    apart _ slot (sym never ∙ each) some

first-difference : (log other : Log) (found : Slot) → difference_of log other ≡ Some found → IsFirstDifference log other found
first-difference log other found e =
    let at = first_below-found (difference_at log other) (stage_count log.shape) found e in
    let stage : ℕ = at.0 in
    let place = first_below-found (λ place. differing log other (record { stage = stage; sender = place + 1 })) log.shape.members found at.2
    in
    let here : Slot = record { stage = stage; sender = place.0 + 1 } in
    let differ = found-differ log other here found place.2 in
    record {
      differ = subst (λ (s : Slot). Differ log other s) differ.0 differ.1;
      first = subst (λ (s : Slot). (slot : Slot) → Differ log other slot → (s.stage < slot.stage)
          ⊎ ((s.stage ≡ slot.stage) × (s.sender ≤ slot.sender))) differ.0 (before stage place.0 at.3 place.3);
    }
  where
    before : (stage place : ℕ) → ((j : ℕ) → j < stage → difference_at log other j ≡ None)
        → ((j : ℕ) → j < place → differing log other (record { stage = stage; sender = j + 1 }) ≡ None)
        → (slot : Slot) → Differ log other slot → (stage < slot.stage) ⊎ ((stage ≡ slot.stage) × (place + 1 ≤ slot.sender))
    before stage place stages_before places_before slot differ =
        elim (cases_lt stage slot.stage) [
          | inl later ↦ inl later
          | inr le ↦
              elim (cases_lt slot.stage stage) [
                | inl earlier ↦ absurd (not-before log other slot differ (stages_before slot.stage earlier))
                | inr ge ↦
                    let same : stage ≡ slot.stage = omega arith in
                    elim (cases_lt slot.sender (place + 1)) [
                      | inl below ↦ absurd (here stage place slot same below differ (places_before (slot.sender - 1)))
                      | inr at_least ↦ inr (same, at_least)
                    ]
              ]
        ]
      where
        here : (stage place : ℕ) (slot : Slot) → stage ≡ slot.stage → slot.sender < place + 1 → Differ log other slot
            → (slot.sender - 1 < place → differing log other (record { stage = stage; sender = slot.sender - 1 + 1 }) ≡ None) → ⊥
        here stage place slot same below differ none =
            let bounds = slot-bounds log.shape slot.stage slot.sender (kept-slot log slot differ.post differ.kept) in
            let sender : slot.sender - 1 + 1 ≡ slot.sender = omega (arith, bounds.1) in
            let some = differ-found log other slot differ in
            let there = ap (λ (s : ℕ). differing log other (record { stage = stage; sender = s })) sender
            ∙ ap (λ (t : ℕ). differing log other (record { stage = t; sender = slot.sender })) same in
            apart _ slot (sym there ∙ none (omega (arith, bounds.1, bounds.2))) some

-- what the definition gives is the first of all, or there is none
pub difference-is : (log other : Log) (o : Option Slot) → o ≡ difference_of log other
    → MatchOption o (HaveNoDifference log other) (λ slot. IsFirstDifference log other slot)
difference-is log other None e = λ slot differ.
    let bounds = slot-bounds log.shape slot.stage slot.sender (kept-slot log slot differ.post differ.kept) in
    not-before log other slot differ (first_below-each (difference_at log other) (stage_count log.shape) (sym e) slot.stage bounds.0)
difference-is log other (Some found) e = first-difference log other found (sym e)
