-- The order of deliveries.
use Rattle.std.proofs.Common.{◌≡◌, ℕ, true, List, [], ◌∷◌, map, Option, Some, None, ap, sym, ◌∙◌, refl, inl, inr}
use Rattle.std.specs.Prelude.{◌&&◌, Contains, is_ok, option_and_then}
use Rattle.std.proofs.lemmas.Bool.{and_parts, cases_Bool, cond-false, cond-true}
use Rattle.std.proofs.lemmas.List.Sorted.{Contains-permutation, IsPermutation-sym}
use Rattle.std.proofs.lemmas.Option.{none-some}
use Rattle.wire_core.specs.Answers.{first_some}
use Rattle.wire_core.proofs.AnswerLemmas.{first_some-some_parts, first_some-none_parts}
use Rattle.phase_message.specs.declared.post.Post.{Post}
use Rattle.phase_message.specs.declared.stage.Slot.{Slot}
use Rattle.round_spec.specs.Embedded.{names_slot, slot_named}
use Rattle.round_spec.specs.Say.{Configuration}
use Rattle.round_spec.specs.Course.{Others, course_of, own_posts}
use Rattle.round_spec.specs.Deliveries.{AreConsistent, outcome_of_stand}
use Rattle.round_spec.specs.Result.{Heard, first_posts, heard_in, heard_of, post_given}
use Rattle.round_spec.proofs.Contained.{contains-cases, contains-here, contains-later, contains-nothing}
use Rattle.round_spec.proofs.Deliveries.{names-is}
use Rattle.round_spec.proofs.Wholes.{whole_course}
use Rattle.member_spec.specs.Order.{AreOrderless, OrderChangesNothing}

-- ---- the first of answers

-- the first answer is that to one of the list
first-of : {A B : Type 0} (f : A → Option B) (xs : List A) (y : B) → first_some (map f xs) ≡ Some y → (x : A) × Contains xs x
    × (f x ≡ Some y)
first-of f [] y e = absurd (none-some y e)
first-of f (x ∷ xs) y e = elim (first_some-some_parts (f x) (map f xs) y e) [
  | inl here ↦ (x, contains-here x xs, here)
  | inr later ↦ (let found = first-of f xs y later.1 in (found.0, contains-later x xs found.0 found.1, found.2))
]

-- without one no element has an answer
first-none : {A B : Type 0} (f : A → Option B) (xs : List A) (x : A) → first_some (map f xs) ≡ None → Contains xs x → f x ≡ None
first-none f [] x e c = absurd (contains-nothing x c)
first-none f (z ∷ xs) x e c =
    let parts = first_some-none_parts (f z) (map f xs) e in
    elim (contains-cases z xs x c) [
      | inl here ↦ sym (ap f here) ∙ parts.0
      | inr later ↦ first-none f xs x parts.1 later
    ]

-- ---- what a slot is given

-- a string that gives a slot a post is heard, for that slot and with a body in the grammar, and the post is its own
record IsGivenBy (c : Configuration) (slot : Slot) (bytes : List ℕ) (post : Post) : Type 0 where
  heard : Heard
  is : heard_of c bytes ≡ Some heard
  named : slot ≡ slot_named heard.header
  reads : is_ok heard.content ≡ true
  same : heard.post ≡ post

given-by : (c : Configuration) (slot : Slot) (bytes : List ℕ) (post : Post) → post_given c slot bytes ≡ Some post
    → IsGivenBy c slot bytes post
unfolding post_given
given-by c slot bytes post e = by_heard (heard_of c bytes) refl e
  where
    told_same : (x y : Post) → (let told : Post → Option Post = λ z. Some z in told x ≡ told y) → x ≡ y
    told_same x y e = cc

    by_heard : (o : Option Heard) → heard_of c bytes ≡ o → option_and_then (heard_in slot) o ≡ Some post → IsGivenBy c slot bytes post
    by_heard None is e = absurd (none-some post e)
    by_heard (Some heard) is e = elim (cases_Bool (names_slot slot heard.header && is_ok heard.content)) [
      | inr not_so ↦ absurd (none-some post (sym (cond-false (names_slot slot heard.header && is_ok heard.content) (Some heard.post) None
          not_so) ∙ e))
      | inl so ↦
          let parts = and_parts (names_slot slot heard.header) (is_ok heard.content) so in
          record {
            heard = heard;
            is = is;
            named = names-is slot heard.header parts.0;
            reads = parts.1;
            same = told_same heard.post post
                (sym (cond-true (names_slot slot heard.header && is_ok heard.content) (Some heard.post) None so) ∙ e);
          }
    ]

-- two strings of the deliveries that give one slot posts give it the same
given-same : (c : Configuration) (delivered : List (List ℕ)) (slot : Slot) (bytes other : List ℕ) (post second : Post)
    → AreOrderless c delivered
    → Contains delivered bytes → Contains delivered other → post_given c slot bytes ≡ Some post → post_given c slot other ≡ Some second
    → post ≡ second
given-same c delivered slot bytes other post second orderless here there e e' =
    let one = given-by c slot bytes post e in
    let two = given-by c slot other second e' in
    let same : bytes ≡ other = orderless.single bytes other one.heard two.heard here there one.is two.is (sym one.named ∙ two.named) in
    told_same post second (sym e ∙ ap (post_given c slot) same ∙ e')
  where
    told_same : (x y : Post) → (let told : Post → Option Post = λ z. Some z in told x ≡ told y) → x ≡ y
    told_same x y e = cc

-- deliveries that have each other's strings give each slot the same post
posts-same : (c : Configuration) (delivered others : List (List ℕ)) (slot : Slot) → AreOrderless c delivered
    → ((bytes : List ℕ) → Contains delivered bytes → Contains others bytes)
    → ((bytes : List ℕ) → Contains others bytes → Contains delivered bytes)
    → first_posts c others slot ≡ first_posts c delivered slot
unfolding first_posts
posts-same c delivered others slot orderless into back = by_first (first_some (map (post_given c slot) delivered))
    (first_some (map (post_given c slot) others)) refl refl
  where
    by_first : (o p : Option Post) → first_some (map (post_given c slot) delivered) ≡ o → first_some (map (post_given c slot) others) ≡ p
        → first_some (map (post_given c slot) others) ≡ first_some (map (post_given c slot) delivered)
    by_first None None e e' = e' ∙ sym e
    by_first (Some post) None e e' =
        let found = first-of (post_given c slot) delivered post e in
        absurd (none-some post (sym (first-none (post_given c slot) others found.0 e' (into found.0 found.1)) ∙ found.2))
    by_first None (Some post) e e' =
        let found = first-of (post_given c slot) others post e' in
        absurd (none-some post (sym (first-none (post_given c slot) delivered found.0 e (back found.0 found.1)) ∙ found.2))
    by_first (Some post) (Some second) e e' =
        let one = first-of (post_given c slot) delivered post e in
        let two = first-of (post_given c slot) others second e' in
        let same : post ≡ second = given-same c delivered slot one.0 two.0 post second orderless one.1 (back two.0 two.1) one.2 two.2 in
        e' ∙ sym (e ∙ ap (λ (p : Post). Some p) same)

-- nobody is at fault in such deliveries
consistent : (c : Configuration) (delivered : List (List ℕ)) → AreOrderless c delivered → AreConsistent c delivered
unfolding first_posts
consistent c delivered orderless bytes heard listed is = (
  orderless.read bytes heard listed is,
  λ first e. same first
      (first-of (post_given c (slot_named heard.header)) delivered first e),
)
  where
    told_same : (x y : Heard) → (let told : Heard → Option Heard = λ z. Some z in told x ≡ told y) → x ≡ y
    told_same x y e = cc

    same : (first : Post) → (b : List ℕ) × Contains delivered b × (post_given c (slot_named heard.header) b ≡ Some first)
        → first.content ≡ heard.post.content
    same first found =
        let given = given-by c (slot_named heard.header) found.0 first found.2 in
        let string : found.0 ≡ bytes = orderless.single found.0 bytes given.heard heard found.1 listed given.is is (sym given.named) in
        let one : given.heard ≡ heard = told_same given.heard heard (sym given.is ∙ ap (heard_of c) string ∙ is) in
        ap (λ (p : Post). p.content) (sym given.same) ∙ ap (λ (h : Heard). h.post.content) one

-- a reordering of such deliveries is such, too
reordered : (c : Configuration) (delivered others : List (List ℕ)) → AreOrderless c delivered
    → ((bytes : List ℕ) → Contains others bytes → Contains delivered bytes) → AreOrderless c others
reordered c delivered others orderless back = record {
  read = λ bytes heard listed. orderless.read bytes heard (back bytes listed);
  single = λ bytes other heard second here there. orderless.single bytes other heard second (back bytes here) (back other there);
}

same-function : (f g : Others) → ((slot : Slot) → f slot ≡ g slot) → f ≡ g
same-function f g each = λ i slot. each slot i

pub order_changes_nothing : OrderChangesNothing
order_changes_nothing c delivered others orderless shuffled =
    let into : (bytes : List ℕ) → Contains delivered bytes → Contains others bytes = λ bytes. Contains-permutation delivered others bytes
    shuffled in
    let back : (bytes : List ℕ) → Contains others bytes
    → Contains delivered bytes = λ bytes. Contains-permutation others delivered bytes (IsPermutation-sym delivered others shuffled) in
    let posts : first_posts c others ≡ first_posts c delivered = same-function (first_posts c others) (first_posts c delivered)
    (λ slot. posts-same c delivered others slot orderless into back) in
    let was = whole_course c delivered (consistent c delivered orderless) in
    let is = whole_course c others (consistent c others (reordered c delivered others orderless back)) in (
      is.result ∙ ap (λ (o : Others). outcome_of_stand c o (course_of c o)) posts ∙ sym was.result,
      is.posts ∙ ap (λ (o : Others). own_posts c (course_of c o)) posts ∙ sym was.posts,
    )
