-- What stands in the past of an honest run: posts that check, each in its slot.
use Rattle.std.proofs.Common.{◌≡◌, ℕ, zero, suc, ◌+◌, ◌-◌, ◌<◌, ◌≤◌, true, List, [], ◌∷◌, length, map, take, drop, Option, Some, Ok, ap, sym, ◌∙◌, refl, subst, arith, inl, inr}
use Rattle.std.specs.Prelude.{option_map, zip, if◌then◌else◌}
use Rattle.std.specs.List.{slice_get, slice_range}
use Rattle.std.proofs.lemmas.Bool.{cases_Bool, cond-true, cond-false, eq-eqb}
use Rattle.std.proofs.lemmas.List.{drop-map, length-drop, length-map, length-take, length-take-le, take-map}
use Rattle.std.proofs.lemmas.Option.{get_or_from_slice_get, slice_get-map}
use Rattle.phase_message.specs.declared.content.Content.{Content}
use Rattle.phase_message.specs.declared.header.Header.{Header}
use Rattle.phase_message.specs.declared.post.Post.{Post}
use Rattle.phase_message.specs.declared.stage.Slot.{Slot}
use Rattle.phase_message.specs.Post.{post_spelling}
use Rattle.phase_message.specs.Shape.{Shape}
use Rattle.phase_message.specs.Slots.{slot_at, slots_before, slots_of}
use Rattle.phase_message.proofs.SlotLists.{length-slots_of, slot_at-is, slots_before-most}
use Rattle.group_roster.specs.Roster.{Roster}
use Rattle.signed_post.specs.Admission.{Admitted}
use Rattle.signed_post.proofs.Admits.{admits_exactly}
use Rattle.signed_post.proofs.Frames.{framed-again}
use Rattle.stage_log.specs.Log.{before}
use Rattle.stage_log.specs.Table.{IsLog, Log, kept_in}
use Rattle.stage_log.proofs.Entries.{before-within, kept_in-at}
use Rattle.stage_log.proofs.Pasts.{all_some-is}
use Rattle.go_nogo.specs.Closing.{embedded_of, is_assent}
use Rattle.go_nogo.specs.Rows.{written}
use Rattle.go_nogo.proofs.VoteSlots.{get_drop}
use Rattle.round_spec.specs.Embedded.{checked_post, names_slot, post_for_slot, posts_for, slot_named}
use Rattle.round_spec.specs.Say.{Configuration}
use Rattle.round_spec.specs.Runs.{ChecksIn}
use Rattle.round_spec.proofs.Rows.{checks-parts}

-- ---- places

pub take-get : {A : Type 0} (xs : List A) (n k : ℕ) (x : A) → slice_get (take n xs) k ≡ Some x → (k < n) × (slice_get xs k ≡ Some x)
take-get xs zero k x e = absurd cc
take-get [] (suc n) k x e = absurd cc
take-get (y ∷ ys) (suc n) zero x e = (omega arith, e)
take-get (y ∷ ys) (suc n) (suc k) x e = let more = take-get ys n k x e in (omega (arith, more.0), more.1)

pub there : {A : Type 0} (xs : List A) (k : ℕ) → k < length xs → (x : A) × (slice_get xs k ≡ Some x)
there [] k lt = absurd (omega (arith, lt))
there (x ∷ xs) zero lt = (x, refl)
there (x ∷ xs) (suc k) lt = there xs k (omega (arith, lt))

-- ---- the past of a log

pub past-length : (log : Log) (stage : ℕ) (past : List Post) → IsLog log → before log stage ≡ Some past
    → length past ≡ slots_before log.shape stage
past-length log stage past is e =
    let n : ℕ = slots_before log.shape stage in
    let all : take n log.posts ≡ map (λ x. Some x) past = all_some-is (take n log.posts) past e in
    sym (length-map past (λ x. Some x)) ∙ ap length (sym all) ∙ length-take-le n log.posts (before-within log stage is)

-- what stands in the past at the number of a slot is what the log keeps in it
pub record IsKeptAt (log : Log) (k : ℕ) (post : Post) : Type 0 where
  pub slot : Slot
  pub at : slot_at log.shape k ≡ Some slot
  pub kept : kept_in log slot ≡ Some post

pub past-kept : (log : Log) (stage k : ℕ) (past : List Post) (post : Post) → IsLog log → before log stage ≡ Some past
    → slice_get past k ≡ Some post
    → IsKeptAt log k post
past-kept log stage k past post is e at =
    let n : ℕ = slots_before log.shape stage in
    let all : take n log.posts ≡ map (λ x. Some x) past = all_some-is (take n log.posts) past e in
    let found =
    take-get log.posts n k (Some post) (ap (λ (xs : List (Option Post)). slice_get xs k) all ∙ slice_get-map (λ x. Some x) past k
    ∙ ap (option_map (λ x. Some x)) at) in
    let few = found.0 in
    let slot = there (slots_of log.shape) k (omega (arith, few, slots_before-most log.shape stage, length-slots_of log.shape)) in
    let number = slot_at-is log.shape k slot.0 slot.1 in
    record {
      slot = slot.0;
      at = slot.1;
      kept = kept_in-at log slot.0 k (Some post) is number.0 (sym number.1)
          (sym (get_or_from_slice_get log.posts k (Some post) (Some post) found.1));
    }

-- ---- posts that check

-- a post that checks is admitted
pub checks-admitted : (c : Configuration) (slot : Slot) (post : Post) (is : ChecksIn c slot post) → (header : Header)
    × Admitted c.roster c.round post header
checks-admitted c slot post is =
    let parts = checks-parts c.roster c.round post is.content is.checks in
    (parts.0, (admits_exactly c.roster c.round post parts.0 is.signature_bytes).0 parts.1)

names-self : (header : Header) → names_slot (slot_named header) header ≡ true
names-self header = rw (eq-eqb header.stage header.stage refl, eq-eqb header.sender header.sender refl) refl

pub checks-for-slot : (c : Configuration) (slot : Slot) (post : Post) → ChecksIn c slot post
    → post_for_slot c.roster c.round slot (post_spelling post) ≡ Ok post
unfolding post_for_slot checked_post
checks-for-slot c slot post is =
    let admitted = checks-admitted c slot post is in
    let framed = framed-again post admitted.1.frame in
    let names : names_slot slot is.content.header ≡ true =
    subst (λ (s : Slot). names_slot s is.content.header ≡ true) is.named (names-self is.content.header) in
    rw (framed, is.checks, names) refl

-- ---- posts for slots

-- posts that are each for its slot are found
pub posts-found : (roster : Roster) (round place : ℕ) (slots : List Slot) (posts : List Post) → length posts ≤ length slots
    → ((k : ℕ) (slot : Slot) (post : Post) → slice_get slots k ≡ Some slot → slice_get posts k ≡ Some post
    → post_for_slot roster round slot (post_spelling post) ≡ Ok post)
    → posts_for roster round place (zip slots (written posts)) ≡ Ok posts
unfolding posts_for
posts-found roster round place [] [] few each = refl
posts-found roster round place (slot ∷ slots) [] few each = refl
posts-found roster round place [] (post ∷ posts) few each = absurd (omega (arith, few))
posts-found roster round place (slot ∷ slots) (post ∷ posts) few each =
    let first = each 0 slot post refl refl in
    let others = posts-found roster round (place + 1) slots posts (omega (arith, few))
    (λ k slot post at there. each (suc k) slot post at there) in
    rw (first, others) refl

-- ---- what is embedded

-- where the values that a content embeds begin
abbrev first_place : Shape → Content → ℕ
first_place shape content = if is_assent content.body then slots_before shape (content.header.stage - 1) else 0

pub embedded-get : {A : Type 0} (shape : Shape) (content : Content) (xs : List A) (k : ℕ) (x : A)
    → slice_get (embedded_of shape content xs) k ≡ Some x
    → slice_get xs (first_place shape content + k) ≡ Some x
embedded-get {A} shape content xs k x e =
    let a : ℕ = slots_before shape (content.header.stage - 1) in
    let b : ℕ = slots_before shape (content.header.stage - 1 + 1) in
    let n : ℕ = slots_before shape content.header.stage in
    elim (cases_Bool (is_assent content.body)) [
      | inl assents ↦
          ap (λ (p : ℕ). slice_get xs (p + k)) (cond-true (is_assent content.body) a 0 assents)
          ∙ sym (get_drop xs a k)
          ∙ (take-get (drop a xs) (b - a) k x (ap (λ (ys : List A). slice_get ys k)
          (sym (cond-true (is_assent content.body) (slice_range xs a b) (take n xs) assents)) ∙ e)).1
      | inr objects ↦
          let from : 0 + k ≡ k = omega arith in
          ap (λ (p : ℕ). slice_get xs (p + k)) (cond-false (is_assent content.body) a 0 objects)
          ∙ ap (slice_get xs) from
          ∙ (take-get xs n k x (ap (λ (ys : List A). slice_get ys k)
          (sym (cond-false (is_assent content.body) (slice_range xs a b) (take n xs) objects)) ∙ e)).1
    ]

pub embedded-few : {A B : Type 0} (shape : Shape) (content : Content) (xs : List A) (ys : List B) → length xs ≤ length ys
    → length (embedded_of shape content xs) ≤ length (embedded_of shape content ys)
embedded-few {A} {B} shape content xs ys few =
    let a : ℕ = slots_before shape (content.header.stage - 1) in
    let b : ℕ = slots_before shape (content.header.stage - 1 + 1) in
    let n : ℕ = slots_before shape content.header.stage in
    elim (cases_Bool (is_assent content.body)) [
      | inl assents ↦
          let left = ap length (cond-true (is_assent content.body) (slice_range xs a b) (take n xs) assents) in
          let right = ap length (cond-true (is_assent content.body) (slice_range ys a b) (take n ys) assents) in
          omega (
            arith,
            few,
            left,
            right,
            length-take (b - a) (drop a xs),
            length-take (b - a) (drop a ys),
            length-drop a xs,
            length-drop a
                ys,
          )
      | inr objects ↦
          let left = ap length (cond-false (is_assent content.body) (slice_range xs a b) (take n xs) objects) in
          let right = ap length (cond-false (is_assent content.body) (slice_range ys a b) (take n ys) objects) in
          omega (arith, few, left, right, length-take n xs, length-take n ys)
    ]

pub embedded-map : {A B : Type 0} (f : A → B) (shape : Shape) (content : Content) (xs : List A)
    → map f (embedded_of shape content xs) ≡ embedded_of shape content (map f xs)
embedded-map f shape content xs =
    let a : ℕ = slots_before shape (content.header.stage - 1) in
    let b : ℕ = slots_before shape (content.header.stage - 1 + 1) in
    let n : ℕ = slots_before shape content.header.stage in
    elim (cases_Bool (is_assent content.body)) [
      | inl assents ↦
          ap (map f) (cond-true (is_assent content.body) (slice_range xs a b) (take n xs) assents)
          ∙ sym (ap (take (b - a)) (drop-map f a xs) ∙ take-map f (b - a) (drop a xs))
          ∙ sym (cond-true (is_assent content.body) (slice_range (map f xs) a b) (take n (map f xs)) assents)
      | inr objects ↦
          ap (map f) (cond-false (is_assent content.body) (slice_range xs a b) (take n xs) objects)
          ∙ sym (take-map f n xs)
          ∙ sym (cond-false (is_assent content.body) (slice_range (map f xs) a b) (take n (map f xs)) objects)
    ]
