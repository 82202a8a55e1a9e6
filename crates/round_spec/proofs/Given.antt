-- Where the first posts of slots come from.
use Rattle.std.proofs.Common.{◌≡◌, ◌≢◌, ℕ, zero, suc, ◌+◌, true, List, [], ◌∷◌, ◌++◌, length, map, Option, Some, None, Result, Ok, Err, ap, sym, ◌∙◌, refl, subst, arith, inl, inr}
use Rattle.std.specs.Prelude.{◌&&◌, ◌==◌, Contains, is_ok, option_and_then}
use Rattle.std.specs.List.{range_with_len}
use Rattle.std.specs.Int.{to_be_bytes, w32}
use Rattle.std.specs.Result.{result_ok}
use Rattle.std.proofs.lemmas.Bool.{and_parts, cases_Bool, cond-false, cond-true, eq-eqb}
use Rattle.std.proofs.lemmas.List.Elements.{All-contains}
use Rattle.std.proofs.lemmas.Option.{none-some}
use Rattle.wire_core.specs.Answers.{first_some}
use Rattle.wire_core.specs.Bytes.{IsBytes}
use Rattle.wire_core.specs.declared.cursor.Short.{Short}
use Rattle.wire_core.proofs.AnswerLemmas.{first_some-some_parts}
use Rattle.wire_core.proofs.ByteLists.{IsBytes-back, IsBytes-front}
use Rattle.phase_message.specs.declared.content.Content.{Content}
use Rattle.phase_message.specs.declared.header.Header.{Header}
use Rattle.phase_message.specs.declared.offence.Offence.{Offence}
use Rattle.phase_message.specs.declared.post.Post.{Post}
use Rattle.phase_message.specs.declared.stage.Slot.{Slot}
use Rattle.phase_message.specs.Header.{header_of}
use Rattle.phase_message.specs.Offence.{content_read}
use Rattle.phase_message.proofs.Whole.{content-header}
use Rattle.signed_post.specs.Admission.{framed_admission_of}
use Rattle.signed_post.specs.Frame.{frame_of}
use Rattle.signed_post.proofs.Admits.{admit-found, admits_exactly}
use Rattle.signed_post.proofs.Frames.{framed-bytes, framed-fits, framed-found}
use Rattle.shuffle_blame.specs.Replay.{body_in, ciphertext_of, list_of, submit_stage as replay_stage}
use Rattle.round_spec.specs.Slots.{said_in, submit_stage}
use Rattle.round_spec.specs.Embedded.{names_slot, slot_named}
use Rattle.round_spec.specs.Say.{Configuration, shape_in}
use Rattle.round_spec.specs.Result.{Heard, first_posts, heard_in, heard_of, heard_of_post, heard_with, post_given}
use Rattle.round_spec.specs.Given.{FirstPostsDelivered, FirstPostsName, IsDelivered, ListsAgree}
use Rattle.round_spec.proofs.Beginnings.{checks-from}
use Rattle.round_spec.proofs.Contained.{contains-here, contains-later}
use Rattle.round_spec.proofs.Deliveries.{names-is}
use Rattle.round_spec.proofs.Rows.{checks-parts}

-- ---- what is heard

and-then-parts : {A B : Type 0} (f : A → Option B) (o : Option A) (y : B) → option_and_then f o ≡ Some y → (x : A) × (o ≡ Some x)
    × (f x ≡ Some y)
and-then-parts f None y e = absurd (none-some y e)
and-then-parts f (Some x) y e = (x, refl, e)

ok-of : {A E : Type 0} (r : Result A E) (x : A) → result_ok r ≡ Some x → r ≡ Ok x
ok-of {A} {E} (Ok y) x e = let told : A → Result A E = λ z. Ok z in ap told (some-is y x e)
  where
    some-is : (a b : A) → (let some : A → Option A = λ z. Some z in some a ≡ some b) → a ≡ b
    some-is a b e = cc
ok-of (Err f) x e = absurd (none-some x e)

first-given : {A B : Type 0} (f : A → Option B) (xs : List A) (y : B) → first_some (map f xs) ≡ Some y → (x : A) × Contains xs x
    × (f x ≡ Some y)
first-given f [] y e = absurd (none-some y e)
first-given f (x ∷ xs) y e = elim (first_some-some_parts (f x) (map f xs) y e) [
  | inl here ↦ (x, contains-here x xs, here)
  | inr later ↦ (let found = first-given f xs y later.1 in (found.0, contains-later x xs found.0 found.1, found.2))
]

-- what is heard of bytes: a post of another member, that is admitted
record IsHeard (c : Configuration) (bytes : List ℕ) (heard : Heard) : Type 0 where
  pub spelled : frame_of bytes ≡ Ok heard.post
  pub admitted : framed_admission_of c.roster c.round heard.post ≡ Ok heard.header
  pub other : heard.header.sender ≢ c.number
  pub content : heard.content ≡ content_read (shape_in c) heard.post.content

heard-same : (a b : Heard) → (let told : Heard → Option Heard = λ z. Some z in told a ≡ told b) → a ≡ b
heard-same a b e = cc

with-parts : (c : Configuration) (post : Post) (header : Header) (heard : Heard) → heard_with c post header ≡ Some heard
    → (header.sender ≢ c.number) × (record { header = header; post = post; content = content_read (shape_in c) post.content } ≡ heard)
with-parts c post header heard e = elim (cases_Bool (header.sender == c.number)) [
  | inl own ↦ absurd (none-some heard (sym (cond-true (header.sender == c.number) None _ own) ∙ e))
  | inr other ↦ (
    λ same. (let equal = eq-eqb header.sender c.number same in let both = sym equal ∙ other in cc),
    heard-same _ heard (sym (cond-false (header.sender == c.number) None _ other) ∙ e),
  )
]

heard-parts : (c : Configuration) (bytes : List ℕ) (heard : Heard) → heard_of c bytes ≡ Some heard → IsHeard c bytes heard
unfolding heard_of
heard-parts c bytes heard e =
    let framed = and-then-parts (heard_of_post c) (result_ok (frame_of bytes)) heard e in
    let admitted = and-then-parts (heard_with c framed.0) (result_ok (framed_admission_of c.roster c.round framed.0)) heard framed.2 in
    let with = with-parts c framed.0 admitted.0 heard admitted.2 in
    subst (IsHeard c bytes) with.1 (record {
      spelled = ok-of (frame_of bytes) framed.0 framed.1;
      admitted = ok-of (framed_admission_of c.roster c.round framed.0) admitted.0 admitted.1;
      other = with.0;
      content = refl;
    })

-- what it gives a slot
in-parts : (slot : Slot) (heard : Heard) (post : Post) → heard_in slot heard ≡ Some post → (names_slot slot heard.header ≡ true)
    × (is_ok heard.content ≡ true) × (heard.post ≡ post)
in-parts slot heard post e = elim (cases_Bool (names_slot slot heard.header && is_ok heard.content)) [
  | inl both ↦
      let parts = and_parts (names_slot slot heard.header) (is_ok heard.content) both in (
        parts.0,
        parts.1,
        post-same heard.post post (sym (cond-true (names_slot slot heard.header && is_ok heard.content) (Some heard.post)
            None both) ∙ e),
      )
  | inr not_both ↦ absurd (none-some post (sym (cond-false (names_slot slot heard.header && is_ok heard.content) (Some heard.post) None
      not_both) ∙ e))
]
  where
    post-same : (a b : Post) → (let told : Post → Option Post = λ z. Some z in told a ≡ told b) → a ≡ b
    post-same a b e = cc

read-ok : (r : Result Content Offence) → is_ok r ≡ true → (content : Content) × (r ≡ Ok content)
read-ok (Ok content) e = (content, refl)
read-ok (Err offence) e = absurd cc

header-same : (a b : Header) (r : Result Header Short) → r ≡ Ok a → r ≡ Ok b → a ≡ b
header-same a b r e e' = let both = sym e ∙ e' in cc

-- ---- the first posts

spelled-bytes : (bytes : List ℕ) (post : Post) → IsBytes bytes → frame_of bytes ≡ Ok post → IsBytes post.content
spelled-bytes bytes post is e =
    let found = framed-found bytes post is e in
    let whole : IsBytes ((to_be_bytes w32 (length post.content) ++ post.content) ++ post.signature) = subst IsBytes found.1 is in
    IsBytes-back (to_be_bytes w32 (length post.content)) post.content
    (IsBytes-front (to_be_bytes w32 (length post.content) ++ post.content) post.signature whole)

delivered-by : (c : Configuration) (delivered : List (List ℕ)) (slot : Slot) (bytes : List ℕ) (heard : Heard) → IsBytes bytes
    → Contains delivered bytes → IsHeard c bytes heard
    → names_slot slot heard.header ≡ true → is_ok heard.content ≡ true → IsDelivered c delivered slot heard.post
delivered-by c delivered slot bytes heard are listed is names reads =
    let post : Post = heard.post in
    let read = read-ok heard.content reads in
    let content_is : content_read (shape_in c) post.content ≡ Ok read.0 = sym is.content ∙ read.1 in
    let signature = framed-bytes bytes post are is.spelled in
    let admitted = admit-found c.roster c.round post heard.header (framed-fits bytes post is.spelled) signature is.admitted in
    let headers = header-same read.0.header heard.header (header_of post.content)
    (content-header (shape_in c) post.content read.0 content_is) admitted.reads in
    let slot_is = names-is slot heard.header names in
    record {
      bytes = bytes;
      listed = listed;
      spelled = is.spelled;
      header = heard.header;
      admitted = admitted;
      checks = record {
        content = read.0;
        checks = checks-from c.roster c.round post heard.header read.0
            ((admits_exactly c.roster c.round post heard.header signature).1 admitted) content_is;
        content_bytes = spelled-bytes bytes post are is.spelled;
        signature_bytes = signature;
        named = ap slot_named headers ∙ sym slot_is;
      };
      other = λ same. is.other (sym (ap (λ (s : Slot). s.sender) slot_is) ∙ same);
    }

pub first_posts_delivered : FirstPostsDelivered
unfolding first_posts post_given
first_posts_delivered c delivered slot post all e =
    let found = first-given (post_given c slot) delivered post e in
    let given = and-then-parts (heard_in slot) (heard_of c found.0) post found.2 in
    let parts = in-parts slot given.0 post given.2 in
    subst (IsDelivered c delivered slot) parts.2
    (delivered-by c delivered slot found.0 given.0 (All-contains IsBytes delivered found.0 all found.1) found.1
    (heard-parts c found.0 given.0 given.1) parts.0 parts.1)

content-same : (a b : Content) (r : Result Content Offence) → r ≡ Ok a → r ≡ Ok b → a ≡ b
content-same a b r e e' = let both = sym e ∙ e' in cc

pub first_posts_name : FirstPostsName
first_posts_name c delivered all slot post content e reads =
    let is = first_posts_delivered c delivered slot post all e in
    let parts = checks-parts c.roster c.round post is.checks.content is.checks.checks in
    let same = content-same content is.checks.content (content_read (shape_in c) post.content) reads parts.2 in
    ap (λ (x : Content). slot_named x.header) same ∙ is.checks.named

-- ---- lists

pub lists_agree : ListsAgree
unfolding said_in
lists_agree q shuffle zero e =
    let stage : replay_stage q ≡ submit_stage q.shape shuffle = omega (arith, e) in
    ap (λ (s : ℕ). Some (map (λ (member : ℕ). ciphertext_of (body_in q s member)) (range_with_len 1 q.shape.members))) stage
lists_agree q shuffle (suc turn) e =
    let stage : replay_stage q ≡ submit_stage q.shape shuffle = omega (arith, e) in
    ap (λ (s : ℕ). list_of (body_in q (s + suc turn) (suc turn))) stage
