-- What is heard of deliveries, one after the other and as a whole.
use Rattle.std.proofs.Common.{◌≡◌, ◌⊎◌, ℕ, zero, suc, ◌+◌, ◌-◌, ◌<◌, ◌≤◌, Bool, true, false, List, [], ◌∷◌, ◌++◌, length, map, take, Option, Some, None, ap, sym, ◌∙◌, refl, arith, inl, inr, length-append}
use Rattle.std.specs.Prelude.{◌&&◌, ◌==◌, is_ok, bytes_eq, option_map, option_and_then, if◌then◌else◌}
use Rattle.std.specs.List.{slice_get}
use Rattle.std.proofs.lemmas.Bool.{cases_Bool, cond-true, and_parts, eqb-true, cases_lt}
use Rattle.std.proofs.lemmas.List.{map-append, take-append-le, take_all}
use Rattle.std.proofs.lemmas.Option.{none-some}
use Rattle.std.proofs.lemmas.Slice.Eq.{bytes_eq-Decides}
use Rattle.wire_core.specs.Answers.{first_below, first_some}
use Rattle.wire_core.proofs.AnswerLemmas.{first_below-each, first_below-found, first_below-none, first_below-some, first_some-none, first_some-none_parts, first_some-some, first_some-some_parts}
use Rattle.phase_message.specs.declared.header.Header.{Header}
use Rattle.phase_message.specs.declared.post.Post.{Post}
use Rattle.phase_message.specs.declared.stage.Slot.{Slot}
use Rattle.phase_message.proofs.Table.{slice_get_right}
use Rattle.round_spec.specs.Embedded.{names_slot, slot_named}
use Rattle.round_spec.specs.Say.{Configuration}
use Rattle.round_spec.specs.Verdict.{Verdict}
use Rattle.round_spec.specs.Course.{Others, Stand, course_of}
use Rattle.round_spec.specs.Result.{Heard, contradiction, contradiction_with, ending_at, ending_of, ending_verdict, fault_shown, first_posts, heard_in, heard_of, last_of, least_ending, malformed_conviction, post_given, stand_after}
use Rattle.round_spec.specs.Deliveries.{FirstPostsContained, FirstPostsGrow, IdleChangesNothing, IsIdle, LeastEndingGrows, with_last}

-- ---- first posts

first_some-front : {A : Type 0} (xs ys : List (Option A)) (x : A) → first_some xs ≡ Some x → first_some (xs ++ ys) ≡ Some x
first_some-front [] ys x e = absurd (none-some x e)
first_some-front (Some y ∷ xs) ys x e = e
first_some-front (None ∷ xs) ys x e = first_some-front xs ys x e

first_some-back : {A : Type 0} (xs ys : List (Option A)) → first_some xs ≡ None → first_some (xs ++ ys) ≡ first_some ys
first_some-back [] ys e = refl
first_some-back (Some y ∷ xs) ys e = absurd (none-some y (sym e))
first_some-back (None ∷ xs) ys e = first_some-back xs ys e

first_some-one : {A : Type 0} (o : Option A) → first_some (o ∷ []) ≡ o
first_some-one None = refl
first_some-one (Some x) = refl

pub first-posts-grow : (c : Configuration) (delivered : List (List ℕ)) (bytes : List ℕ) (slot : Slot)
    → FirstPostsGrow c delivered bytes slot
unfolding first_posts
first-posts-grow c delivered bytes slot = record {
  stays = λ post e. ap first_some (map-append (post_given c slot) delivered (bytes ∷ []))
      ∙ first_some-front (map (post_given c slot) delivered) (post_given c slot bytes ∷ []) post e;
  comes = λ e. ap first_some (map-append (post_given c slot) delivered (bytes ∷ []))
      ∙ first_some-back (map (post_given c slot) delivered) (post_given c slot bytes ∷ []) e ∙ first_some-one (post_given c slot bytes);
}

pub first_posts_contained : FirstPostsContained
unfolding first_posts
first_posts_contained c delivered count slot post e = by_split delivered count e
  where
    by_split : (ds : List (List ℕ)) (k : ℕ) → first_some (map (post_given c slot) (take k ds)) ≡ Some post
        → first_some (map (post_given c slot) ds) ≡ Some post
    by_split ds zero e = absurd (none-some post e)
    by_split [] (suc k) e = e
    by_split (d ∷ ds) (suc k) e = elim (first_some-some_parts (post_given c slot d) (map (post_given c slot) (take k ds)) post e) [
      | inl here ↦ first_some-some post (post_given c slot d) (map (post_given c slot) ds) here
      | inr later ↦ first_some-none (post_given c slot d) (map (post_given c slot) ds) later.0 ∙ by_split ds k later.1
    ]

-- ---- the least ending

-- the first deliveries are the same with one more behind
ending-front : (c : Configuration) (delivered : List (List ℕ)) (bytes : List ℕ) (count : ℕ) → count ≤ length delivered
    → ending_at c (with_last delivered bytes) count ≡ ending_at c delivered count
ending-front c delivered bytes count le =
    ap (λ (ds : List (List ℕ)). option_map (λ (verdict : Verdict). (count, verdict)) (ending_of c ds))
    (take-append-le count delivered (bytes ∷ []) le)

pub ending-all : (c : Configuration) (delivered : List (List ℕ)) (count : ℕ) → length delivered ≤ count
    → ending_at c delivered count ≡ option_map (λ verdict. (count, verdict)) (ending_of c delivered)
ending-all c delivered count le = ap (λ (ds : List (List ℕ)). option_map (λ (verdict : Verdict). (count, verdict)) (ending_of c ds))
    (take_all count delivered le)

pub least-ending-grows : (c : Configuration) (delivered : List (List ℕ)) (bytes : List ℕ) → LeastEndingGrows c delivered bytes
unfolding least_ending
least-ending-grows c delivered bytes = record { stays = stays; comes = comes }
  where
    more : List (List ℕ)
    more = with_last delivered bytes

    long : length more ≡ length delivered + 1
    long = length-append delivered (bytes ∷ [])

    stays : (ending : ℕ × Verdict) → first_below (suc (length delivered)) (ending_at c delivered) ≡ Some ending
        → first_below (suc (length more)) (ending_at c more) ≡ Some ending
    stays ending e =
        let found = first_below-found (ending_at c delivered) (suc (length delivered)) ending e in
        let within = found.1 in
        first_below-some (ending_at c more) (suc (length more)) found.0 ending (omega (arith, long))
        (λ j lt. ending-front c delivered bytes j (omega arith) ∙ found.3 j lt)
        (ending-front c delivered bytes found.0 (omega arith) ∙ found.2)

    comes : first_below (suc (length delivered)) (ending_at c delivered) ≡ None
        → first_below (suc (length more)) (ending_at c more) ≡ option_map (λ verdict. (length delivered + 1, verdict)) (ending_of c more)
    comes none = by_last (option_map (λ verdict. (length delivered + 1, verdict)) (ending_of c more)) refl
      where
        front : (j : ℕ) → j < length delivered + 1 → ending_at c more j ≡ None
        front j lt = ending-front c delivered bytes j (omega arith)
            ∙ first_below-each (ending_at c delivered) (suc (length delivered)) none j (omega arith)

        last : ending_at c more (length delivered + 1) ≡ option_map (λ verdict. (length delivered + 1, verdict)) (ending_of c more)
        last = ending-all c more (length delivered + 1) (omega (arith, long))

        by_last : (o : Option (ℕ × Verdict)) → option_map (λ verdict. (length delivered + 1, verdict)) (ending_of c more) ≡ o
            → first_below (suc (length more)) (ending_at c more) ≡ option_map (λ verdict. (length delivered + 1, verdict))
            (ending_of c more)
        by_last (Some ending) is = first_below-some (ending_at c more) (suc (length more)) (length delivered + 1) ending
            (omega (arith, long)) front (last ∙ is) ∙ sym is
        by_last None is = first_below-none (ending_at c more) (suc (length more)) (λ j lt. each j lt (cases_lt j (length delivered + 1)))
            ∙ sym is
          where
            each : (j : ℕ) → j < suc (length more) → (j < length delivered + 1) ⊎ (length delivered + 1 ≤ j) → ending_at c more j ≡ None
            each j lt (inl earlier) = front j earlier
            each j lt (inr now) = (let same : j ≡ length delivered + 1 = omega (arith, long) in ap (ending_at c more) same ∙ last ∙ is)

-- ---- idle strings

pub names-is : (slot : Slot) (header : Header) → names_slot slot header ≡ true → slot ≡ slot_named header
names-is slot header e =
    let parts = and_parts (header.stage == slot.stage) (header.sender == slot.sender) e in
    let stage : header.stage ≡ slot.stage = eqb-true header.stage slot.stage parts.0 in
    let sender : header.sender ≡ slot.sender = eqb-true header.sender slot.sender parts.1 in
    sym (ap (λ (s : ℕ). record { stage = s; sender = header.sender }) stage
    ∙ ap (λ (s : ℕ). record { stage = slot.stage; sender = s }) sender)

-- a string of which nothing is heard gives no slot a post
given-none : (c : Configuration) (slot : Slot) (bytes : List ℕ) → heard_of c bytes ≡ None → post_given c slot bytes ≡ None
unfolding post_given
given-none c slot bytes e = ap (option_and_then (heard_in slot)) e

-- and one that is heard gives none to another slot
given-other : (c : Configuration) (slot : Slot) (bytes : List ℕ) (heard : Heard) → heard_of c bytes ≡ Some heard
    → names_slot slot heard.header ≡ false → post_given c slot bytes ≡ None
unfolding post_given
given-other c slot bytes heard e other =
    ap (option_and_then (heard_in slot)) e ∙ ap (λ (b : Bool). if b && is_ok heard.content then Some heard.post else None) other

idle-posts : (c : Configuration) (delivered : List (List ℕ)) (bytes : List ℕ) → IsIdle c delivered bytes → (slot : Slot)
    → first_posts c (with_last delivered bytes) slot ≡ first_posts c delivered slot
idle-posts c delivered bytes idle slot = by_first (first_posts c delivered slot) refl
  where
    grows : FirstPostsGrow c delivered bytes slot
    grows = first-posts-grow c delivered bytes slot

    gives_none : first_posts c delivered slot ≡ None → IsIdle c delivered bytes → post_given c slot bytes ≡ None
    gives_none none (inl nothing) = given-none c slot bytes nothing
    gives_none none (inr found) = elim (cases_Bool (names_slot slot found.0.header)) [
      | inl here ↦ absurd (none-some found.2.kept (sym none ∙ ap (first_posts c delivered) (names-is slot found.0.header here)
          ∙ found.2.first))
      | inr other ↦ given-other c slot bytes found.0 found.1 other
    ]

    by_first : (o : Option Post) → first_posts c delivered slot ≡ o
        → first_posts c (with_last delivered bytes) slot ≡ first_posts c delivered slot
    by_first (Some post) e = grows.stays post e ∙ sym e
    by_first None e = grows.comes e ∙ gives_none e idle ∙ sym e

same-function : (f g : Others) → ((slot : Slot) → f slot ≡ g slot) → f ≡ g
same-function f g each = λ i slot. each slot i

last-of : (delivered : List (List ℕ)) (bytes : List ℕ) → last_of (with_last delivered bytes) ≡ Some bytes
last-of delivered bytes =
    let at : length (with_last delivered bytes) - 1 ≡ length delivered + 0 = omega (arith, length-append delivered (bytes ∷ [])) in
    ap (slice_get (with_last delivered bytes)) at ∙ slice_get_right delivered (bytes ∷ []) 0

-- what is the same as the first post of its slot shows no fault
same-sound : (c : Configuration) (firsts : Others) (bytes : List ℕ) (heard : Heard) (kept : Post) → is_ok heard.content ≡ true
    → firsts (slot_named heard.header) ≡ Some kept → kept.content ≡ heard.post.content
    → first_some (malformed_conviction c bytes heard ∷ contradiction c firsts bytes heard ∷ []) ≡ None
same-sound c firsts bytes heard kept reads first same =
    let sound : malformed_conviction c bytes heard ≡ None = cond-true (is_ok heard.content) None _ reads in
    let equal : bytes_eq kept.content heard.post.content ≡ true = (bytes_eq-Decides kept.content heard.post.content).1 same in
    let agrees : contradiction c firsts bytes heard ≡ None = ap (option_and_then (contradiction_with c bytes heard)) first
    ∙ cond-true (bytes_eq kept.content heard.post.content) None _ equal in
    first_some-none (malformed_conviction c bytes heard) (contradiction c firsts bytes heard ∷ []) sound
    ∙ first_some-none (contradiction c firsts bytes heard) [] agrees

idle-sound : (c : Configuration) (delivered : List (List ℕ)) (bytes : List ℕ) (firsts : Others)
    → ((slot : Slot) → firsts slot ≡ first_posts c delivered slot) → IsIdle c delivered bytes → fault_shown c firsts bytes ≡ None
idle-sound c delivered bytes firsts are (inl nothing) = ap (option_and_then _) nothing
idle-sound c delivered bytes firsts are (inr found) =
    ap (option_and_then (λ (heard : Heard). first_some (malformed_conviction c bytes heard ∷ contradiction c firsts bytes heard ∷ [])))
    found.1
    ∙ same-sound c firsts bytes found.0 found.2.kept found.2.reads (are (slot_named found.0.header) ∙ found.2.first) found.2.same

pub ending-parts : (c : Configuration) (delivered : List (List ℕ)) → ending_of c delivered ≡ None
    → ending_verdict (stand_after c delivered).verdict ≡ None
unfolding ending_of
ending-parts c delivered e =
    (first_some-none_parts _ [] (first_some-none_parts (option_and_then (fault_shown c (first_posts c delivered)) (last_of delivered))
    (ending_verdict (stand_after c delivered).verdict ∷ []) e).1).0

pub ending-none : (c : Configuration) (delivered : List (List ℕ))
    → option_and_then (fault_shown c (first_posts c delivered)) (last_of delivered) ≡ None
    → ending_of c delivered ≡ ending_verdict (stand_after c delivered).verdict
unfolding ending_of
ending-none c delivered e =
    first_some-none (option_and_then (fault_shown c (first_posts c delivered)) (last_of delivered))
    (ending_verdict (stand_after c delivered).verdict ∷ []) e
    ∙ first_some-one (ending_verdict (stand_after c delivered).verdict)

pub idle_changes_nothing : IdleChangesNothing
idle_changes_nothing c delivered bytes idle =
    let more : List (List ℕ) = with_last delivered bytes in
    let posts = idle-posts c delivered bytes idle in
    let stand : stand_after c more ≡ stand_after c delivered = ap (course_of c)
    (same-function (first_posts c more) (first_posts c delivered) posts) in
    record {
      posts = posts;
      stand = stand;
      ending = λ none.
          ending-none c more (ap (option_and_then (fault_shown c (first_posts c more))) (last-of delivered bytes)
          ∙ idle-sound c delivered bytes (first_posts c more) posts idle)
          ∙ ap (λ (s : Stand). ending_verdict s.verdict) stand ∙ ending-parts c delivered none;
    }
