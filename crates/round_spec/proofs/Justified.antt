-- When a closing content is justified.
use Rattle.std.proofs.Common.{◌≡◌, ℕ, zero, suc, ◌+◌, ◌-◌, ◌<◌, Bool, true, false, List, [], ◌∷◌, Option, Some, None, Result, Ok, Err, ap, sym, ◌∙◌, refl, subst, arith}
use Rattle.std.specs.Prelude.{not, bytes_eq, ◌&&◌, All, zip, slice_get}
use Rattle.std.specs.List.{AllZip}
use Rattle.std.proofs.lemmas.Bool.{and_from, and_parts, cond-false, cond-true, eq-eqb}
use Rattle.std.proofs.lemmas.Slice.Eq.{bytes_eq-Decides}
use Rattle.wire_core.specs.Answers.{◌>>=◌, fault_as}
use Rattle.wire_core.specs.Bytes.{IsBytes}
use Rattle.wire_core.proofs.Readings.{bind_ok, fault_as_ok}
use Rattle.phase_message.specs.declared.content.Content.{Content}
use Rattle.phase_message.specs.declared.header.Header.{Header}
use Rattle.phase_message.specs.declared.post.Post.{Post}
use Rattle.phase_message.specs.declared.stage.Slot.{Slot}
use Rattle.phase_message.specs.Header.{header_of}
use Rattle.phase_message.specs.Shape.{Shape}
use Rattle.phase_message.proofs.Whole.{content-header}
use Rattle.group_roster.specs.Roster.{Roster, shape_of_roster}
use Rattle.signed_post.specs.Admission.{Admitted}
use Rattle.signed_post.specs.Frame.{frame_of}
use Rattle.signed_post.proofs.Admits.{admits_exactly}
use Rattle.signed_post.proofs.Frames.{framed-again, framed-bytes, framed-found}
use Rattle.stage_log.specs.Log.{contents_at, contents_of, view_of}
use Rattle.go_nogo.specs.declared.votes.Vote.{Vote}
use Rattle.go_nogo.specs.Closing.{is_assent, is_justified, posts_embedded, slots_embedded}
use Rattle.go_nogo.specs.Votes.{are_unanimous, has_unanimous, is_unanimous, votes_agree, votes_of}
use Rattle.go_nogo.proofs.Unanimity.{unanimity}
use Rattle.wire_core.specs.declared.cursor.Short.{Short}
use Rattle.round_spec.specs.Embedded.{BadPost, WhyNot, checked_post, embedded_pairs, is_content_justified, is_justified_by, names_slot, post_for_slot, posts_for, posts_in_content, slot_named}
use Rattle.round_spec.specs.Justified.{ArePostsOf, AreUnanimousVotes, FirstBadIsTold, IsFirstBad, IsJustified, IsPostOf, IsTrueOf, JustifiedExactly, PostsAreFound}
use Rattle.round_spec.proofs.Beginnings.{checks-from}
use Rattle.round_spec.proofs.Deliveries.{names-is}
use Rattle.round_spec.proofs.Embedding.{post-for-slot}
use Rattle.round_spec.proofs.Rows.{checks-parts}

-- ---- one post

header-same : (a b : Header) (r : Result Header Short) → r ≡ Ok a → r ≡ Ok b → a ≡ b
header-same a b r e e' = let both = sym e ∙ e' in cc

-- what is found for a slot is its post
pub found-is : (roster : Roster) (round : ℕ) (slot : Slot) (bytes : List ℕ) (post : Post) → IsBytes bytes
    → post_for_slot roster round slot bytes ≡ Ok post → IsPostOf roster round slot bytes post
found-is roster round slot bytes post are e =
    let is = post-for-slot roster round slot bytes post e in
    let framed = framed-found bytes post are is.spelled in
    let parts = checks-parts roster round post is.content is.checks in
    let admitted = (admits_exactly roster round post parts.0 (framed-bytes bytes post are is.spelled)).0 parts.1 in
    let same = header-same parts.0 is.content.header (header_of post.content) admitted.reads
    (content-header (shape_of_roster roster) post.content is.content parts.2) in
    record {
      spelled = framed.1;
      content = is.content;
      admitted = subst (Admitted roster round post) same admitted;
      reads = parts.2;
      named = sym (names-is slot is.content.header is.names);
    }

names-self : (header : Header) → names_slot (slot_named header) header ≡ true
names-self header = rw (eq-eqb header.stage header.stage refl, eq-eqb header.sender header.sender refl) refl

-- and its post is found
pub is-found : (roster : Roster) (round : ℕ) (slot : Slot) (bytes : List ℕ) (post : Post) → IsBytes bytes
    → IsPostOf roster round slot bytes post
    → post_for_slot roster round slot bytes ≡ Ok post
unfolding post_for_slot checked_post
is-found roster round slot bytes post are is =
    let framed : frame_of bytes ≡ Ok post = ap frame_of is.spelled ∙ framed-again post is.admitted.frame in
    let signature = framed-bytes bytes post are framed in
    let checks = checks-from roster round post is.content.header is.content
    ((admits_exactly roster round post is.content.header signature).1 is.admitted) is.reads in
    let names : names_slot slot is.content.header ≡ true = subst (λ (s : Slot). names_slot s is.content.header ≡ true) is.named
    (names-self is.content.header) in
    rw (framed, checks, names) refl

-- ---- all of them

abbrev Found : Roster → ℕ → Slot × List ℕ → Post → Type 0
Found roster round pair post = post_for_slot roster round pair.0 pair.1 ≡ Ok post

posts-same : (xs ys : List Post) → (let told : List Post → Result (List Post) BadPost = λ z. Ok z in told xs ≡ told ys) → xs ≡ ys
posts-same xs ys e = cc

bad-same : (a b : BadPost) → (let told : BadPost → Result (List Post) BadPost = λ z. Err z in told a ≡ told b) → a ≡ b
bad-same a b e = cc

never : {A : Type 0} (posts : List Post) (bad : BadPost) (r : Result (List Post) BadPost) → r ≡ Ok posts → r ≡ Err bad → A
never {A} posts bad r e e' = absurd (let both = sym e ∙ e' in cc)

all-found : (roster : Roster) (round place : ℕ) (pairs : List (Slot × List ℕ)) (posts : List Post)
    → posts_for roster round place pairs ≡ Ok posts
    → AllZip (Found roster round) pairs posts
unfolding posts_for
all-found roster round place [] posts e = subst (AllZip (Found roster round) []) (posts-same [] posts e) tt
all-found roster round place (pair ∷ pairs) posts e =
    let bad : WhyNot → BadPost = λ why. record { place = place; why = why } in
    let first = bind_ok (fault_as bad (post_for_slot roster round pair.0 pair.1))
    (λ post. posts_for roster round (place + 1) pairs >>= λ posts. Ok (post ∷ posts)) posts e in
    let others = bind_ok (posts_for roster round (place + 1) pairs) (λ posts. Ok (first.0 ∷ posts)) posts first.2 in
    subst (AllZip (Found roster round) (pair ∷ pairs)) (posts-same (first.0 ∷ others.0) posts others.2)
    (fault_as_ok bad (post_for_slot roster round pair.0 pair.1) first.0 first.1, all-found roster round (place + 1) pairs others.0 others.1)

from-found : (roster : Roster) (round place : ℕ) (pairs : List (Slot × List ℕ)) (posts : List Post)
    → AllZip (Found roster round) pairs posts
    → posts_for roster round place pairs ≡ Ok posts
unfolding posts_for
from-found roster round place [] [] all = refl
from-found roster round place [] (post ∷ posts) all = absurd all
from-found roster round place (pair ∷ pairs) [] all = absurd all
from-found roster round place (pair ∷ pairs) (post ∷ posts) all = rw (all.0, from-found roster round (place + 1) pairs posts all.1) refl

first-bytes : (pair : Slot × List ℕ) (pairs : List (Slot × List ℕ)) → All (λ (p : Slot × List ℕ). IsBytes p.1) (pair ∷ pairs)
    → IsBytes pair.1
first-bytes pair pairs all = all 0 pair (omega arith)

rest-bytes : (pair : Slot × List ℕ) (pairs : List (Slot × List ℕ)) → All (λ (p : Slot × List ℕ). IsBytes p.1) (pair ∷ pairs)
    → All (λ (p : Slot × List ℕ). IsBytes p.1) pairs
rest-bytes pair pairs all k d lt = all (suc k) d (omega (arith, lt))

are-posts : (roster : Roster) (round : ℕ) (pairs : List (Slot × List ℕ)) (posts : List Post)
    → All (λ (p : Slot × List ℕ). IsBytes p.1) pairs
    → AllZip (Found roster round) pairs posts → ArePostsOf roster round pairs posts
are-posts roster round [] [] bytes all = tt
are-posts roster round [] (post ∷ posts) bytes all = absurd all
are-posts roster round (pair ∷ pairs) [] bytes all = absurd all
are-posts roster round (pair ∷ pairs) (post ∷ posts) bytes all = (
  found-is roster round pair.0 pair.1 post (first-bytes pair pairs bytes) all.0,
  are-posts roster round pairs posts
      (rest-bytes pair pairs bytes) all.1,
)

are-found : (roster : Roster) (round : ℕ) (pairs : List (Slot × List ℕ)) (posts : List Post)
    → All (λ (p : Slot × List ℕ). IsBytes p.1) pairs
    → ArePostsOf roster round pairs posts → AllZip (Found roster round) pairs posts
are-found roster round [] [] bytes all = tt
are-found roster round [] (post ∷ posts) bytes all = absurd all
are-found roster round (pair ∷ pairs) [] bytes all = absurd all
are-found roster round (pair ∷ pairs) (post ∷ posts) bytes all = (
  is-found roster round pair.0 pair.1 post (first-bytes pair pairs bytes) all.0,
  are-found roster round pairs posts
      (rest-bytes pair pairs bytes) all.1,
)

pub posts_are_found : PostsAreFound
posts_are_found roster round place pairs posts bytes = (
  λ e. are-posts roster round pairs posts bytes (all-found roster round place pairs posts e),
  λ all. from-found roster round place pairs posts (are-found roster round pairs posts bytes all),
)

-- ---- the first that is none

-- the first bad one of pairs of which the first has a place
record FirstFrom (roster : Roster) (round place : ℕ) (pairs : List (Slot × List ℕ)) (bad : BadPost) : Type 0 where
  pub k : ℕ
  pub pair : Slot × List ℕ
  pub is : bad.place ≡ place + k
  pub at : slice_get pairs k ≡ Some pair
  pub why : post_for_slot roster round pair.0 pair.1 ≡ Err bad.why
  pub earlier : (i : ℕ) (other : Slot × List ℕ) → i < k → slice_get pairs i ≡ Some other
      → (post : Post) × (post_for_slot roster round other.0 other.1 ≡ Ok post)

pair-same : (a b : Slot × List ℕ) → (let told : Slot × List ℕ → Option (Slot × List ℕ) = λ z. Some z in told a ≡ told b) → a ≡ b
pair-same a b e = cc

-- the pairs before a bad one behind the first are found
earlier-found : (roster : Roster) (round k : ℕ) (pair : Slot × List ℕ) (pairs : List (Slot × List ℕ)) (post : Post)
    → Found roster round pair post
    → ((i : ℕ) (other : Slot × List ℕ) → i < k → slice_get pairs i ≡ Some other → (p : Post)
    × (post_for_slot roster round other.0 other.1 ≡ Ok p))
    → (i : ℕ) (other : Slot × List ℕ) → i < suc k → slice_get (pair ∷ pairs) i ≡ Some other → (p : Post)
    × (post_for_slot roster round other.0 other.1 ≡ Ok p)
earlier-found roster round k pair pairs post is each zero other lt e =
    (post, subst (λ (p : Slot × List ℕ). post_for_slot roster round p.0 p.1 ≡ Ok post) (pair-same pair other e) is)
earlier-found roster round k pair pairs post is each (suc i) other lt e = each i other (omega (arith, lt)) e

-- what is told of the others, behind a first that is found
behind-first : (roster : Roster) (round place : ℕ) (pair : Slot × List ℕ) (pairs : List (Slot × List ℕ)) (post : Post) (bad : BadPost)
    → Found roster round pair post
    → FirstFrom roster round (place + 1) pairs bad → FirstFrom roster round place (pair ∷ pairs) bad
behind-first roster round place pair pairs post bad is found =
    let at = found.is in
    record {
      k = suc found.k;
      pair = found.pair;
      is = omega (arith, at);
      at = found.at;
      why = found.why;
      earlier = earlier-found roster round found.k pair pairs post is found.earlier;
    }

first-from : (roster : Roster) (round place : ℕ) (pairs : List (Slot × List ℕ)) (bad : BadPost)
    → posts_for roster round place pairs ≡ Err bad
    → FirstFrom roster round place pairs bad
unfolding posts_for
first-from roster round place [] bad e = never [] bad (Ok []) refl e
first-from roster round place (pair ∷ pairs) bad e = by_post (λ other at. first-from roster round (place + 1) pairs other at)
    (post_for_slot roster round pair.0 pair.1) refl e
  where
    by_rest : ((other : BadPost) → posts_for roster round (place + 1) pairs ≡ Err other → FirstFrom roster round (place + 1) pairs other)
        → (post : Post) (r : Result (List Post) BadPost) → post_for_slot roster round pair.0 pair.1 ≡ Ok post
        → posts_for roster round (place + 1) pairs ≡ r → (r >>= λ posts. Ok (post ∷ posts)) ≡ Err bad
        → FirstFrom roster round place (pair ∷ pairs) bad
    by_rest next post (Ok posts) is at all = never (post ∷ posts) bad (Ok (post ∷ posts)) refl all
    by_rest next post (Err other) is at all =
        behind-first roster round place pair pairs post bad is
        (subst (FirstFrom roster round (place + 1) pairs) (bad-same other bad all) (next other at))

    by_post : ((other : BadPost) → posts_for roster round (place + 1) pairs ≡ Err other → FirstFrom roster round (place + 1) pairs other)
        → (r : Result Post WhyNot) → post_for_slot roster round pair.0 pair.1 ≡ r
        → (fault_as (λ why. record { place = place; why = why }) r >>= λ post. posts_for roster round (place + 1) pairs >>= λ posts. Ok
        (post ∷ posts)) ≡ Err bad → FirstFrom roster round place (pair ∷ pairs) bad
    by_post next (Err why) is all =
        let same : record { place = place; why = why } ≡ bad = bad-same (record { place = place; why = why }) bad all in
        record {
          k = 0;
          pair = pair;
          is = sym (ap (λ (b : BadPost). b.place) same) ∙ omega arith;
          at = refl;
          why = is ∙ ap (λ (b : BadPost). Err b.why) same;
          earlier = λ i other lt at. absurd (omega (arith, lt));
        }
    by_post next (Ok post) is all = by_rest next post (posts_for roster round (place + 1) pairs) is refl all

-- and it is told
told-from : (roster : Roster) (round place : ℕ) (k : ℕ) (pairs : List (Slot × List ℕ)) (pair : Slot × List ℕ) (why : WhyNot)
    → slice_get pairs k ≡ Some pair → post_for_slot roster round pair.0 pair.1 ≡ Err why
    → ((i : ℕ) (other : Slot × List ℕ) → i < k → slice_get pairs i ≡ Some other → (post : Post)
    × (post_for_slot roster round other.0 other.1 ≡ Ok post))
    → posts_for roster round place pairs ≡ Err (record { place = place + k; why = why })
unfolding posts_for
told-from roster round place k [] pair why at is earlier = absurd cc
told-from roster round place zero (first ∷ pairs) pair why at is earlier =
    let here : post_for_slot roster round first.0 first.1 ≡ Err why = subst
    (λ (p : Slot × List ℕ). post_for_slot roster round p.0 p.1 ≡ Err why) (sym (pair-same first pair at)) is in
    let place_is : place ≡ place + 0 = omega arith in
    rw here (ap (λ (n : ℕ). Err (record { place = n; why = why })) place_is)
told-from roster round place (suc k) (first ∷ pairs) pair why at is earlier =
    let found = earlier 0 first (omega arith) refl in
    let rest = told-from roster round (place + 1) k pairs pair why at is
    (λ i other lt there. earlier (suc i) other (omega (arith, lt)) there) in
    let place_is : place + 1 + k ≡ place + suc k = omega arith in
    rw (found.1, rest) (ap (λ (n : ℕ). Err (record { place = n; why = why })) place_is)

pub first_bad_is_told : FirstBadIsTold
first_bad_is_told roster round pairs bad = (
  λ e. is-first (first-from roster round 0 pairs bad e),
  λ is. told-from roster round 0 bad.place pairs is.pair bad.why is.at is.why is.earlier
      ∙ ap (λ (n : ℕ). Err (record { place = n; why = bad.why })) (omega arith),
)
  where
    is-first : FirstFrom roster round 0 pairs bad → IsFirstBad roster round pairs bad
    is-first found =
        let same : found.k ≡ bad.place = (let at = found.is in omega (arith, at)) in
        record {
          pair = found.pair;
          at = sym (ap (slice_get pairs) same) ∙ found.at;
          why = found.why;
          earlier = λ place other lt. found.earlier place other (omega (arith, lt, same));
        }

-- ---- justified closing contents

votes-are : (shape : Shape) (contents : List (List ℕ)) → are_unanimous shape contents ≡ true → AreUnanimousVotes shape contents
unfolding are_unanimous
votes-are shape contents e = by_votes (votes_of shape contents) refl
  where
    by_votes : (o : Option (List Vote)) → votes_of shape contents ≡ o → AreUnanimousVotes shape contents
    by_votes None is = absurd (let both = sym (ap has_unanimous is) ∙ e in cc)
    by_votes (Some votes) is = (votes, is, (unanimity votes (is_unanimous votes) refl).0 (sym (ap has_unanimous is) ∙ e))

are-votes : (shape : Shape) (contents : List (List ℕ)) → AreUnanimousVotes shape contents → are_unanimous shape contents ≡ true
unfolding are_unanimous
are-votes shape contents all = ap has_unanimous all.1 ∙ (unanimity all.0 (is_unanimous all.0) refl).1 all.2

not-true : (b : Bool) → (b ≡ true → ⊥) → not b ≡ true
not-true true h = absurd (h refl)
not-true false h = refl

true-not : (b : Bool) → not b ≡ true → b ≡ true → ⊥
true-not true e e' = absurd cc
true-not false e e' = absurd cc

says-so : (shape : Shape) (content : Content) (embedded : List (List ℕ)) (b : Bool) → is_assent content.body ≡ b
    → is_justified shape content embedded ≡ true → IsTrueOf b shape content embedded
unfolding is_justified
says-so shape content embedded true assents e =
    votes-are shape embedded (sym (cond-true (is_assent content.body) (are_unanimous shape embedded) _ assents) ∙ e)
says-so shape content embedded false objects e =
    let both = and_parts _ _ (sym (cond-false (is_assent content.body) (are_unanimous shape embedded)
    (not (votes_agree shape embedded content.header.stage) && bytes_eq content.header.view
    (view_of shape embedded content.header.stage)) objects) ∙ e) in (
      λ all. true-not (votes_agree shape embedded content.header.stage) both.0
          (are-votes shape (contents_at shape embedded (content.header.stage - 1)) all),
      (bytes_eq-Decides content.header.view (view_of shape embedded content.header.stage)).0 both.1,
    )

so-said : (shape : Shape) (content : Content) (embedded : List (List ℕ)) (b : Bool) → is_assent content.body ≡ b
    → IsTrueOf b shape content embedded
    → is_justified shape content embedded ≡ true
unfolding is_justified
so-said shape content embedded true assents says = cond-true (is_assent content.body) (are_unanimous shape embedded) _ assents
    ∙ are-votes shape embedded says
so-said shape content embedded false objects says =
    cond-false (is_assent content.body) (are_unanimous shape embedded)
    (not (votes_agree shape embedded content.header.stage) && bytes_eq content.header.view
    (view_of shape embedded content.header.stage)) objects
    ∙ and_from _ _ (not-true (votes_agree shape embedded content.header.stage)
    (λ e. says.0 (votes-are shape (contents_at shape embedded (content.header.stage - 1)) e)))
    ((bytes_eq-Decides content.header.view (view_of shape embedded content.header.stage)).1 says.1)

pub zip-bytes : (slots : List Slot) (items : List (List ℕ)) → All IsBytes items → All (λ (p : Slot × List ℕ). IsBytes p.1) (zip slots items)
zip-bytes [] items all k d lt = absurd (omega (arith, lt))
zip-bytes (slot ∷ slots) [] all k d lt = absurd (omega (arith, lt))
zip-bytes (slot ∷ slots) (item ∷ items) all zero d lt = all 0 item (omega arith)
zip-bytes (slot ∷ slots) (item ∷ items) all (suc k) d lt = zip-bytes slots items (λ j e small. all (suc j) e (omega (arith, small))) k d
    (omega (arith, lt))

pub justified_exactly : JustifiedExactly
unfolding is_content_justified
justified_exactly roster round content bytes = (by_posts (posts_in_content roster round content) refl, back)
  where
    shape : Shape
    shape = shape_of_roster roster

    pairs-bytes : All (λ (p : Slot × List ℕ). IsBytes p.1) (embedded_pairs roster content)
    pairs-bytes = zip-bytes (slots_embedded (shape_of_roster roster) content) (posts_embedded content.body) bytes

    by_posts : (r : Result (List Post) BadPost) → posts_in_content roster round content ≡ r
        → is_justified_by (shape_of_roster roster) content (posts_in_content roster round content) ≡ true → IsJustified roster round content
    by_posts (Err bad) is e = absurd (let both = sym (ap (is_justified_by (shape_of_roster roster) content) is) ∙ e in cc)
    by_posts (Ok posts) is e = record {
      posts = posts;
      embeds = (posts_are_found roster round 0 (embedded_pairs roster content) posts pairs-bytes).0 is;
      says = says-so (shape_of_roster roster) content (contents_of posts) (is_assent content.body) refl
          (sym (ap (is_justified_by (shape_of_roster roster) content) is) ∙ e);
    }

    back : IsJustified roster round content → is_justified_by (shape_of_roster roster) content (posts_in_content roster round content) ≡
        true
    back is =
        ap (is_justified_by (shape_of_roster roster) content) ((posts_are_found roster round 0 (embedded_pairs roster content) is.posts
        pairs-bytes).1 is.embeds)
        ∙ so-said (shape_of_roster roster) content (contents_of is.posts) (is_assent content.body) refl is.says
