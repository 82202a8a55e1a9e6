-- What justified closing contents embed: where nothing is at fault, the contents that were kept.
use Rattle.std.proofs.Common.{◌≡◌, ℕ, zero, suc, ◌+◌, ◌-◌, ◌<◌, ◌≤◌, Bool, true, false, List, [], ◌∷◌, length, get_or, map, take, drop, Option, Some, None, Result, Ok, ap, sym, ◌∙◌, refl, subst, arith, inl, inr}
use Rattle.std.specs.Prelude.{not, bytes_eq, slice_index_or, option_map, zip}
use Rattle.std.specs.List.{slice_get, slice_range}
use Rattle.std.proofs.Math.ListN.{get_or-map}
use Rattle.std.proofs.lemmas.Bool.{cases_Bool, cond-true, cond-false}
use Rattle.std.proofs.lemmas.List.{drop-map, ext_get_or, get_or-take, length-map, length-take-le, take-map}
use Rattle.std.proofs.lemmas.Option.{get_or_from_slice_get, slice_get-map}
use Rattle.std.proofs.lemmas.Slice.Eq.{bytes_eq-Decides}
use Rattle.std.proofs.lemmas.Slice.Zip.{firsts-zip}
use Rattle.std.proofs.lemmas.Simd.{map-map}
use Rattle.wire_core.specs.Answers.{◌>>=◌, fault_as, first_some, unless}
use Rattle.wire_core.proofs.AnswerLemmas.{first_some-none_parts}
use Rattle.wire_core.proofs.Readings.{bind_ok, fault_as_ok, guard_ok}
use Rattle.phase_message.specs.declared.content.Content.{Content}
use Rattle.phase_message.specs.declared.post.Post.{Post}
use Rattle.phase_message.specs.declared.stage.Slot.{Slot}
use Rattle.phase_message.specs.Slots.{slot_count, slots_before, slots_of}
use Rattle.phase_message.proofs.SlotLists.{length-slots_of, slot_at-is, slots_before-most, slots_before-rises}
use Rattle.group_roster.specs.Roster.{Roster}
use Rattle.signed_post.specs.declared.post.PostRefusal.{PostRefusal}
use Rattle.signed_post.specs.declared.post.PostRefusal.TheVariants.{Frame}
use Rattle.signed_post.specs.Admission.{check_of}
use Rattle.signed_post.specs.Frame.{frame_of}
use Rattle.stage_log.specs.Log.{contents_of}
use Rattle.stage_log.proofs.Pasts.{slice_range-take}
use Rattle.go_nogo.specs.Closing.{embedded_of, is_assent, posts_embedded, slots_embedded}
use Rattle.round_spec.specs.Embedded.{BadPost, Misplaced, Refused, WhyNot, checked_post, embedded_pairs, names_slot, post_for_slot, posts_for, slot_named}
use Rattle.round_spec.specs.Verdict.{ClosedStage, content_of_post, no_post, past_at, post_in, second_content, shape_at}

-- ---- one embedded post

-- what a post for a slot is: bytes that spell it, a content that checks, and the slot that its header names
pub record IsPostFor (roster : Roster) (round : ℕ) (slot : Slot) (bytes : List ℕ) (post : Post) : Type 0 where
  pub content : Content
  pub spelled : frame_of bytes ≡ Ok post
  pub checks : check_of roster round post ≡ Ok content
  pub names : names_slot slot content.header ≡ true

not-false : (b : Bool) → not b ≡ false → b ≡ true
not-false true e = refl
not-false false e = absurd cc

pair-of : (x y : Post × Content) → (let told : Post × Content → Result (Post × Content) PostRefusal = λ z. Ok z in told x ≡ told y) → x ≡ y
pair-of x y e = cc

checked-parts : (roster : Roster) (round : ℕ) (bytes : List ℕ) (x : Post × Content) → checked_post roster round bytes ≡ Ok x
    → (frame_of bytes ≡ Ok x.0) × (check_of roster round x.0 ≡ Ok x.1)
unfolding checked_post
checked-parts roster round bytes x e =
    let framed = bind_ok (fault_as (λ at. Frame at) (frame_of bytes)) (λ post. check_of roster round post >>= λ content. Ok (post, content))
    x e in
    let checked = bind_ok (check_of roster round framed.0) (λ content. Ok (framed.0, content)) x framed.2 in
    let same : (framed.0, checked.0) ≡ x = pair-of (framed.0, checked.0) x checked.2 in
    subst (λ (x : Post × Content). (frame_of bytes ≡ Ok x.0) × (check_of roster round x.0 ≡ Ok x.1)) same
    (fault_as_ok (λ at. Frame at) (frame_of bytes) framed.0 framed.1, checked.1)

pub post-for-slot : (roster : Roster) (round : ℕ) (slot : Slot) (bytes : List ℕ) (post : Post)
    → post_for_slot roster round slot bytes ≡ Ok post → IsPostFor roster round slot bytes post
unfolding post_for_slot
post-for-slot roster round slot bytes post e =
    let checked = bind_ok (fault_as Refused (checked_post roster round bytes))
    (λ checked. unless (not (names_slot slot checked.1.header)) (Misplaced (slot_named checked.1.header)) checked.0) post e in
    let parts = checked-parts roster round bytes checked.0 (fault_as_ok Refused (checked_post roster round bytes) checked.0 checked.1) in
    let stands = guard_ok (not (names_slot slot checked.0.1.header)) (Misplaced (slot_named checked.0.1.header)) checked.0.0 post checked.2
    in
    subst (IsPostFor roster round slot bytes) stands.1
    (record { content = checked.0.1; spelled = parts.0; checks = parts.1; names = not-false _ stands.0 })

-- ---- all of them

-- the content that was kept in a slot
pub content_kept : ClosedStage → Slot → List ℕ
content_kept v slot = (post_in v slot.stage slot.sender).content

same-content : (v : ClosedStage) (pair : Slot × List ℕ) (post : Post) → frame_of pair.1 ≡ Ok post → second_content v pair ≡ None
    → post.content ≡ content_kept v pair.0
unfolding content_kept
same-content v pair post spelled none = elim (cases_Bool (bytes_eq (content_of_post (frame_of pair.1))
    (post_in v pair.0.stage pair.0.sender).content)) [
      | inl same ↦ sym (ap content_of_post spelled) ∙ (bytes_eq-Decides (content_of_post (frame_of pair.1))
          (post_in v pair.0.stage pair.0.sender).content).0 same
      | inr other ↦ absurd (let found = sym (cond-false (bytes_eq (content_of_post (frame_of pair.1))
          (post_in v pair.0.stage pair.0.sender).content) None _ other) ∙ none in cc)
    ]

-- posts for slots that repeat what was kept have the contents that were kept
pub embedded-contents : (v : ClosedStage) (place : ℕ) (pairs : List (Slot × List ℕ)) (posts : List Post)
    → posts_for v.roster v.round place pairs ≡ Ok posts
    → first_some (map (second_content v) pairs) ≡ None → contents_of posts ≡ map (λ pair. content_kept v pair.0) pairs
unfolding posts_for
embedded-contents v place [] posts e none = ap contents_of (sym (told_same [] posts e))
  where
    told_same : (xs ys : List Post) → (let told : List Post → Result (List Post) BadPost = λ z. Ok z in told xs ≡ told ys) → xs ≡ ys
    told_same xs ys e = cc
embedded-contents v place (pair ∷ pairs) posts e none =
    let bad : WhyNot → BadPost = λ why. record { place = place; why = why } in
    let first = bind_ok (fault_as bad (post_for_slot v.roster v.round pair.0 pair.1))
    (λ post. posts_for v.roster v.round (place + 1) pairs >>= λ posts. Ok (post ∷ posts)) posts e in
    let others = bind_ok (posts_for v.roster v.round (place + 1) pairs) (λ posts. Ok (first.0 ∷ posts)) posts first.2 in
    let parts = first_some-none_parts (second_content v pair) (map (second_content v) pairs) none in
    let is = post-for-slot v.roster v.round pair.0 pair.1 first.0
    (fault_as_ok bad (post_for_slot v.roster v.round pair.0 pair.1) first.0 first.1) in
    ap contents_of (sym (told_same (first.0 ∷ others.0) posts others.2))
    ∙ ap (λ (content : List ℕ). content ∷ contents_of others.0) (same-content v pair first.0 is.spelled parts.0)
    ∙ ap (λ (contents : List (List ℕ)). content_kept v pair.0 ∷ contents) (embedded-contents v (place + 1) pairs others.0 others.1 parts.1)
  where
    told_same : (xs ys : List Post) → (let told : List Post → Result (List Post) BadPost = λ z. Ok z in told xs ≡ told ys) → xs ≡ ys
    told_same xs ys e = cc

-- ---- slots and places

absent : (slots : List Slot) (i : ℕ) → i < length slots → slice_get slots i ≡ None → ⊥
absent [] i lt e = omega (arith, lt)
absent (slot ∷ slots) zero lt e = cc
absent (slot ∷ slots) (suc i) lt e = absent slots i (omega (arith, lt)) e

-- what is kept in the slots, in their order, is the past
kept-at : (v : ClosedStage) (i : ℕ) → i < slot_count (shape_at v)
    → get_or (map (content_kept v) (slots_of (shape_at v))) i [] ≡ get_or (past_at v) i []
unfolding content_kept
kept-at v i lt = by_slot (slice_get (slots_of (shape_at v)) i) refl
  where
    by_slot : (o : Option Slot) → slice_get (slots_of (shape_at v)) i ≡ o
        → get_or (map (content_kept v) (slots_of (shape_at v))) i [] ≡ get_or (past_at v) i []
    by_slot None e = absurd (absent (slots_of (shape_at v)) i (omega (arith, length-slots_of (shape_at v))) e)
    by_slot (Some slot) e =
        let number = (slot_at-is (shape_at v) i slot e).1 in
        get_or_from_slice_get (map (content_kept v) (slots_of (shape_at v))) i (content_kept v slot) []
        (slice_get-map (content_kept v) (slots_of (shape_at v)) i ∙ ap (option_map (content_kept v)) e)
        ∙ ap (λ (k : ℕ). (slice_index_or v.posts k no_post).content) number
        ∙ sym (get_or-map (λ (post : Post). post.content) v.posts i no_post)

-- so is what is kept in the slots before a stage
kept-before : (v : ClosedStage) (stage : ℕ) → slots_before (shape_at v) stage ≤ length v.posts
    → take (slots_before (shape_at v) stage) (map (content_kept v) (slots_of (shape_at v))) ≡ take (slots_before (shape_at v) stage)
    (past_at v)
kept-before v stage whole =
    let n : ℕ = slots_before (shape_at v) stage in
    let most = slots_before-most (shape_at v) stage in
    let long : n ≤ length (past_at v) = omega (arith, length-map v.posts (λ (post : Post). post.content)) in
    let slots : n ≤ length (map (content_kept v) (slots_of (shape_at v))) = omega
    (arith, length-map (slots_of (shape_at v)) (content_kept v), length-slots_of (shape_at v)) in
    let here : length (take n (map (content_kept v) (slots_of (shape_at v)))) ≡ n = length-take-le n _ slots in
    ext_get_or [] _ _ (here ∙ sym (length-take-le n (past_at v) long)) (λ i lt.
    let few : i < n = omega (arith, here) in
    get_or-take n (map (content_kept v) (slots_of (shape_at v))) i [] few ∙ kept-at v i (omega arith)
    ∙ sym (get_or-take n (past_at v) i [] few))

slice-map : {A B : Type 0} (f : A → B) (xs : List A) (a b : ℕ) → slice_range (map f xs) a b ≡ map f (slice_range xs a b)
slice-map f xs a b = ap (take (b - a)) (drop-map f a xs) ∙ take-map f (b - a) (drop a xs)

-- what is kept in the slots that a closing content embeds is what it embeds of the past
pub kept-embedded : (v : ClosedStage) (content : Content) → 1 ≤ content.header.stage
    → slots_before (shape_at v) content.header.stage ≤ length v.posts
    → map (content_kept v) (slots_embedded (shape_at v) content) ≡ embedded_of (shape_at v) content (past_at v)
kept-embedded v content least whole =
    let stage : ℕ = content.header.stage in
    let a : ℕ = slots_before (shape_at v) (stage - 1) in
    let b : ℕ = slots_before (shape_at v) (stage - 1 + 1) in
    let n : ℕ = slots_before (shape_at v) stage in
    let back : stage - 1 + 1 ≡ stage = omega arith in
    let same : b ≡ n = ap (λ (s : ℕ). slots_before (shape_at v) s) back in
    let rises : a ≤ b = slots_before-rises (shape_at v) (stage - 1) (stage - 1 + 1) (omega arith) in
    let kept : List (List ℕ) = map (content_kept v) (slots_of (shape_at v)) in
    let before = kept-before v stage whole in
    elim (cases_Bool (is_assent content.body)) [
      | inl assents ↦
          ap (map (content_kept v)) (cond-true (is_assent content.body) (slice_range (slots_of (shape_at v)) a b)
          (take n (slots_of (shape_at v))) assents)
          ∙ sym (slice-map (content_kept v) (slots_of (shape_at v)) a b)
          ∙ sym (slice_range-take kept a b n rises (omega (arith, same)))
          ∙ ap (λ (xs : List (List ℕ)). slice_range xs a b) before
          ∙ slice_range-take (past_at v) a b n rises (omega (arith, same))
          ∙ sym (cond-true (is_assent content.body) (slice_range (past_at v) a b) (take n (past_at v)) assents)
      | inr objects ↦
          ap (map (content_kept v)) (cond-false (is_assent content.body) (slice_range (slots_of (shape_at v)) a b)
          (take n (slots_of (shape_at v))) objects)
          ∙ sym (take-map (content_kept v) n (slots_of (shape_at v)))
          ∙ before
          ∙ sym (cond-false (is_assent content.body) (slice_range (past_at v) a b) (take n (past_at v)) objects)
    ]

-- as many slots as posts: what is kept in the slots of all pairs
pub kept-pairs : (v : ClosedStage) (content : Content) → length (posts_embedded content.body) ≡ length (slots_embedded (shape_at v) content)
    → map (λ (pair : Slot × List ℕ). content_kept v pair.0) (embedded_pairs v.roster content) ≡ map (content_kept v)
    (slots_embedded (shape_at v) content)
kept-pairs v content count =
    sym (map-map (content_kept v) (λ (pair : Slot × List ℕ). pair.0)
    (zip (slots_embedded (shape_at v) content) (posts_embedded content.body)))
    ∙ ap (map (content_kept v)) (firsts-zip (slots_embedded (shape_at v) content) (posts_embedded content.body) count)
