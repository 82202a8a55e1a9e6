-- In an open round a post is missing exactly where nothing is heard for its slot.
use Rattle.std.proofs.Common.{◌≡◌, ◌≢◌, ℕ, suc, ◌-◌, ◌<◌, true, List, [], ◌∷◌, length, map, take, Option, Some, None, ap, sym, ◌∙◌, refl, subst, arith, inl, inr}
use Rattle.std.specs.Prelude.{◌&&◌, Contains, is_ok, option_and_then}
use Rattle.std.specs.List.{slice_get}
use Rattle.std.proofs.lemmas.Bool.{and_from, and_parts, cases_Bool, cond-false, cond-true}
use Rattle.std.proofs.lemmas.List.{length-take-le}
use Rattle.std.proofs.lemmas.Option.{none-some, slice_get-get_or}
use Rattle.wire_core.specs.Answers.{first_some}
use Rattle.wire_core.proofs.AnswerLemmas.{first_below-each, first_some-none_parts, first_some-some_parts, nothing_mapped}
use Rattle.phase_message.specs.declared.post.Post.{Post}
use Rattle.phase_message.specs.declared.stage.Slot.{Slot}
use Rattle.stage_log.proofs.Views.{slice_get-take}
use Rattle.round_spec.specs.Embedded.{names_slot, slot_named}
use Rattle.round_spec.specs.Justified.{IsPostOf}
use Rattle.round_spec.specs.Result.{Heard, contradiction, ending_at, ending_of, ending_verdict, fault_shown, first_posts, heard_in, heard_of, last_of, least_ending, malformed_conviction, post_given, stand_after}
use Rattle.round_spec.specs.Say.{Configuration}
use Rattle.round_spec.specs.Verdict.{Verdict}
use Rattle.round_spec.proofs.Contained.{contains-here, contains-later}
use Rattle.round_spec.proofs.Deliveries.{names-is}
use Rattle.round_spec.proofs.Unheard.{gives-post, names-self, none-of}
use Rattle.accountability.specs.Naming.{IsUnheard}
use Rattle.accountability.proofs.Endings.{and-then-parts}

-- ---- what is heard in an open round is in the grammar

no-last : (c : Configuration) (part : List (List ℕ)) → ending_of c part ≡ None
    → option_and_then (fault_shown c (first_posts c part)) (last_of part) ≡ None
unfolding ending_of
no-last c part e =
    (first_some-none_parts (option_and_then (fault_shown c (first_posts c part)) (last_of part))
    (ending_verdict (stand_after c part).verdict ∷ []) e).0

part-open : (c : Configuration) (delivered : List (List ℕ)) (count : ℕ) → least_ending c delivered ≡ None → count < suc (length delivered)
    → ending_of c (take count delivered) ≡ None
unfolding least_ending
part-open c delivered count e lt =
    nothing_mapped (λ (verdict : Verdict). (count, verdict)) (ending_of c (take count delivered))
    (first_below-each (ending_at c delivered) (suc (length delivered)) e count lt)

sound-when : (c : Configuration) (bytes : List ℕ) (heard : Heard) → malformed_conviction c bytes heard ≡ None → is_ok heard.content ≡ true
sound-when c bytes heard e = elim (cases_Bool (is_ok heard.content)) [
  | inl reads ↦ reads
  | inr offends ↦ absurd (none-some _ (sym e ∙ cond-false (is_ok heard.content) None _ offends))
]

heard-sound : (c : Configuration) (delivered : List (List ℕ)) (bytes : List ℕ) (heard : Heard) → least_ending c delivered ≡ None
    → Contains delivered bytes
    → heard_of c bytes ≡ Some heard → is_ok heard.content ≡ true
heard-sound c delivered bytes heard least listed e =
    let k : ℕ = listed.0 in
    let lt : k < length delivered = listed.1 in
    let part : List (List ℕ) = take (suc k) delivered in
    let long : length part ≡ suc k = length-take-le (suc k) delivered (omega (arith, lt)) in
    let at : length part - 1 ≡ k = omega (arith, long) in
    let last : last_of part ≡ Some bytes =
    ap (slice_get part) at ∙ slice_get-take delivered (suc k) k (omega arith) ∙ slice_get-get_or delivered k bytes lt
    ∙ ap (λ (x : List ℕ). Some x) listed.2 in
    let none : fault_shown c (first_posts c part) bytes ≡ None =
    sym (ap (option_and_then (fault_shown c (first_posts c part))) last)
    ∙ no-last c part (part-open c delivered (suc k) least (omega (arith, lt))) in
    let each : first_some (malformed_conviction c bytes heard ∷ contradiction c (first_posts c part) bytes heard ∷ []) ≡ None =
    sym (ap (option_and_then (λ (heard : Heard). first_some (malformed_conviction c bytes heard ∷ contradiction c (first_posts c part) bytes
    heard ∷ []))) e) ∙ none in
    sound-when c bytes heard (first_some-none_parts (malformed_conviction c bytes heard)
    (contradiction c (first_posts c part) bytes heard ∷ []) each).0

-- ---- what is missing

given-when : (c : Configuration) (slot : Slot) (bytes : List ℕ) (heard : Heard) → heard_of c bytes ≡ Some heard
    → slot_named heard.header ≡ slot
    → is_ok heard.content ≡ true → post_given c slot bytes ≡ Some heard.post
unfolding post_given
given-when c slot bytes heard e named reads =
    let names : names_slot slot heard.header ≡ true = subst (λ (s : Slot). names_slot s heard.header ≡ true) named (names-self heard.header)
    in
    ap (option_and_then (heard_in slot)) e
    ∙ cond-true (names_slot slot heard.header && is_ok heard.content) (Some heard.post) None
    (and_from (names_slot slot heard.header) (is_ok heard.content) names reads)

-- a string that gives a slot a post is heard for it
record IsHeardFor (c : Configuration) (slot : Slot) (bytes : List ℕ) : Type 0 where
  pub heard : Heard
  pub is : heard_of c bytes ≡ Some heard
  pub named : slot_named heard.header ≡ slot

heard-when : (c : Configuration) (slot : Slot) (bytes : List ℕ) (post : Post) → post_given c slot bytes ≡ Some post
    → IsHeardFor c slot bytes
unfolding post_given
heard-when c slot bytes post e =
    let heard = and-then-parts (heard_in slot) (heard_of c bytes) post e in
    elim (cases_Bool (names_slot slot heard.0.header && is_ok heard.0.content)) [
      | inl both ↦ record {
        heard = heard.0;
        is = heard.1;
        named = sym
            (names-is slot heard.0.header (and_parts (names_slot slot heard.0.header) (is_ok heard.0.content) both).0);
      }
      | inr other ↦ absurd (none-some post (sym (cond-false (names_slot slot heard.0.header && is_ok heard.0.content) (Some heard.0.post)
          None other) ∙ heard.2))
    ]

some-of : {A B : Type 0} (f : A → Option B) (xs : List A) (y : B) → first_some (map f xs) ≡ Some y → (x : A) × Contains xs x
    × (f x ≡ Some y)
some-of f [] y e = absurd (none-some y e)
some-of {A} {B} f (x ∷ xs) y e = elim (first_some-some_parts (f x) (map f xs) y e) [
  | inl here ↦ (x, contains-here x xs, here)
  | inr later ↦ (let found = some-of f xs y later.1 in (found.0, contains-later x xs found.0 found.1, found.2))
]

-- nothing is heard for the slot of a missing post
pub missing-unheard : (c : Configuration) (delivered : List (List ℕ)) (slot : Slot) → least_ending c delivered ≡ None
    → first_posts c delivered slot ≡ None
    → IsUnheard c delivered slot
unfolding first_posts
missing-unheard c delivered slot least none bytes heard listed e named =
    none-some heard.post (sym (none-of (post_given c slot) delivered bytes none listed)
    ∙ given-when c slot bytes heard e named (heard-sound c delivered bytes heard least listed e))

-- and where nothing is heard the post is missing
pub unheard-missing : (c : Configuration) (delivered : List (List ℕ)) (slot : Slot) → IsUnheard c delivered slot
    → first_posts c delivered slot ≡ None
unfolding first_posts
unheard-missing c delivered slot unheard = by_first (first_posts c delivered slot) refl
  where
    by_first : (o : Option Post) → first_posts c delivered slot ≡ o → first_posts c delivered slot ≡ None
    by_first None e = e
    by_first (Some post) e =
        let found = some-of (post_given c slot) delivered post e in
        let is = heard-when c slot found.0 post found.2 in
        absurd (unheard found.0 is.heard found.1 is.is is.named)

-- the post file of a slot of another member is heard for it
pub file-heard : (c : Configuration) (delivered : List (List ℕ)) (slot : Slot) (bytes : List ℕ) (post : Post) → slot.sender ≢ c.number
    → Contains delivered bytes
    → IsPostOf c.roster c.round slot bytes post → IsUnheard c delivered slot → ⊥
file-heard c delivered slot bytes post other listed is unheard =
    let heard = heard-when c slot bytes post (gives-post c slot bytes post other is) in
    unheard bytes heard.heard listed heard.is heard.named
