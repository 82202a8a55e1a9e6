-- What is heard of a delivery, and what it gives the slots.
use Rattle.std.proofs.Common.{◌≡◌, ◌≢◌, ◌⊎◌, ℕ, suc, ◌+◌, ◌-◌, Bool, true, false, List, [], ◌∷◌, length, Option, Some, None, Result, Ok, Err, ap, sym, ◌∙◌, refl, arith, inl, inr, length-append}
use Rattle.std.specs.Prelude.{◌&&◌, ◌==◌, bytes_eq, is_ok, option_and_then, if◌then◌else◌}
use Rattle.std.specs.List.{slice_get}
use Rattle.std.specs.Result.{result_ok}
use Rattle.std.proofs.lemmas.Bool.{and_from, and_parts, cases_Bool, cond-false, cond-true, eq-eqb, false_from_ne_true}
use Rattle.std.proofs.lemmas.Option.{none-some}
use Rattle.std.proofs.lemmas.Slice.Eq.{bytes_eq-Decides}
use Rattle.wire_core.specs.Answers.{first_some}
use Rattle.wire_core.specs.Bytes.{IsBytes}
use Rattle.wire_core.proofs.AnswerLemmas.{first_below-each, first_some-none, first_some-some, nothing_mapped}
use Rattle.phase_message.specs.declared.header.Header.{Header}
use Rattle.phase_message.specs.declared.post.Post.{Post}
use Rattle.phase_message.specs.declared.stage.Slot.{Slot}
use Rattle.phase_message.specs.Stages.{is_slot}
use Rattle.phase_message.proofs.Table.{slice_get_right}
use Rattle.signed_post.specs.Admission.{framed_admission_of}
use Rattle.signed_post.specs.Frame.{frame_of}
use Rattle.signed_post.proofs.Admits.{admit-found}
use Rattle.signed_post.proofs.Frames.{framed-bytes, framed-fits}
use Rattle.round_spec.specs.Embedded.{names_slot, slot_named}
use Rattle.round_spec.specs.Say.{Configuration, shape_in}
use Rattle.round_spec.specs.Verdict.{Convicts, Done, Goes, Verdict}
use Rattle.round_spec.specs.Course.{Others, is_open}
use Rattle.round_spec.specs.Deliveries.{with_last}
use Rattle.round_spec.specs.Result.{Heard, contradiction, contradiction_with, ending_at, ending_of, ending_verdict, fault_shown, first_posts, heard_in, heard_of, heard_of_post, heard_with, last_of, least_ending, malformed_conviction, post_given, stand_after}
use Rattle.round_spec.proofs.Deliveries.{ending-all, ending-parts, first-posts-grow, names-is}

-- ---- what is heard

and-then-parts : {A B : Type 0} (f : A → Option B) (o : Option A) (y : B) → option_and_then f o ≡ Some y → (x : A) × (o ≡ Some x)
    × (f x ≡ Some y)
and-then-parts f None y e = absurd (none-some y e)
and-then-parts f (Some x) y e = (x, refl, e)

ok-of : {A E : Type 0} (r : Result A E) (x : A) → result_ok r ≡ Some x → r ≡ Ok x
ok-of {A} {E} (Ok y) x e = let told : A → Result A E = λ z. Ok z in ap told (some-is y x e)
  where
    some-is : (a b : A) → (let some : A → Option A = λ z. Some z in some a ≡ some b) → a ≡ b
    some-is a b e = cc
ok-of (Err f) x e = absurd (none-some x e)

-- a heard post is of a slot of another member
pub record IsOfOther (c : Configuration) (heard : Heard) : Type 0 where
  pub speaks : is_slot (shape_in c) heard.header.stage heard.header.sender ≡ true
  pub other : (heard.header.sender == c.number) ≡ false

pub heard-other : (c : Configuration) (bytes : List ℕ) (heard : Heard) → IsBytes bytes → heard_of c bytes ≡ Some heard → IsOfOther c heard
unfolding heard_of
heard-other c bytes heard are e =
    let framed = and-then-parts (heard_of_post c) (result_ok (frame_of bytes)) heard e in
    let admitted = and-then-parts (heard_with c framed.0) (result_ok (framed_admission_of c.roster c.round framed.0)) heard framed.2 in
    let spelled = ok-of (frame_of bytes) framed.0 framed.1 in
    let is = ok-of (framed_admission_of c.roster c.round framed.0) admitted.0 admitted.1 in
    let admits = admit-found c.roster c.round framed.0 admitted.0 (framed-fits bytes framed.0 spelled)
    (framed-bytes bytes framed.0 are spelled) is in
    by_sender framed.0 admitted.0 admitted.2 admits.slot (cases_Bool (admitted.0.sender == c.number))
  where
    told_same : (a b : Heard) → (let told : Heard → Option Heard = λ z. Some z in told a ≡ told b) → a ≡ b
    told_same a b e = cc

    by_sender : (post : Post) (header : Header) → heard_with c post header ≡ Some heard
        → is_slot (shape_in c) header.stage header.sender ≡ true
        → ((header.sender == c.number) ≡ true) ⊎ ((header.sender == c.number) ≡ false) → IsOfOther c heard
    by_sender post header e speaks (inl own) = absurd (none-some heard (sym (cond-true (header.sender == c.number) None _ own) ∙ e))
    by_sender post header e speaks (inr other) =
        let same = told_same _ heard (sym (cond-false (header.sender == c.number) None _ other) ∙ e) in
        let headers : header ≡ heard.header = ap (λ (h : Heard). h.header) same in
        record {
          speaks = sym (ap (λ (h : Header). is_slot (shape_in c) h.stage h.sender) headers) ∙ speaks;
          other = sym (ap (λ (h : Header). h.sender == c.number) headers) ∙ other;
        }

-- ---- what it gives

-- to its own slot it gives its post, if the body is in the grammar
pub given-here : (c : Configuration) (bytes : List ℕ) (heard : Heard) → heard_of c bytes ≡ Some heard → is_ok heard.content ≡ true
    → post_given c (slot_named heard.header) bytes ≡ Some heard.post
unfolding post_given
given-here c bytes heard e reads =
    ap (option_and_then (heard_in (slot_named heard.header))) e
    ∙ cond-true (names_slot (slot_named heard.header) heard.header && is_ok heard.content) (Some heard.post) None
    (and_from _ _ (and_from _ _ (eq-eqb heard.header.stage heard.header.stage refl) (eq-eqb heard.header.sender heard.header.sender refl))
    reads)

-- to another slot it gives nothing
pub given-elsewhere : (c : Configuration) (slot : Slot) (bytes : List ℕ) (heard : Heard) → heard_of c bytes ≡ Some heard
    → slot ≢ slot_named heard.header → post_given c slot bytes ≡ None
unfolding post_given
given-elsewhere c slot bytes heard e apart =
    ap (option_and_then (heard_in slot)) e
    ∙ ap (λ (b : Bool). if b && is_ok heard.content then Some heard.post else None)
    (false_from_ne_true (names_slot slot heard.header) (λ named. apart (names-is slot heard.header named)))

-- where the body is outside the grammar it gives nothing at all
pub given-nothing : (c : Configuration) (slot : Slot) (bytes : List ℕ) (heard : Heard) → heard_of c bytes ≡ Some heard
    → is_ok heard.content ≡ false
    → post_given c slot bytes ≡ None
unfolding post_given
given-nothing c slot bytes heard e outside =
    ap (option_and_then (heard_in slot)) e
    ∙ cond-false (names_slot slot heard.header && is_ok heard.content) (Some heard.post) None
    (false_from_ne_true _ (λ both. (let reads = (and_parts (names_slot slot heard.header) (is_ok heard.content) both).1 in let no = sym
    reads ∙ outside in cc)))

-- first posts that get nothing new are the same
pub firsts-same : (c : Configuration) (delivered : List (List ℕ)) (bytes : List ℕ)
    → ((slot : Slot) → first_posts c delivered slot ≡ None → post_given c slot bytes ≡ None)
    → first_posts c (with_last delivered bytes) ≡ first_posts c delivered
firsts-same c delivered bytes nothing = same-function (first_posts c (with_last delivered bytes)) (first_posts c delivered)
    (λ slot. by_first slot (first_posts c delivered slot) refl)
  where
    same-function : (f g : Others) → ((slot : Slot) → f slot ≡ g slot) → f ≡ g
    same-function f g each = λ i slot. each slot i

    by_first : (slot : Slot) (o : Option Post) → first_posts c delivered slot ≡ o
        → first_posts c (with_last delivered bytes) slot ≡ first_posts c delivered slot
    by_first slot (Some post) e = (first-posts-grow c delivered bytes slot).stays post e ∙ sym e
    by_first slot None e = (first-posts-grow c delivered bytes slot).comes e ∙ nothing slot e ∙ sym e

-- ---- the fault that it shows

-- what is looked at of what is heard
abbrev pub faults_with : Configuration → Others → List ℕ → Heard → Option Verdict
faults_with c firsts bytes heard = first_some (malformed_conviction c bytes heard ∷ contradiction c firsts bytes heard ∷ [])

pub fault-of : (c : Configuration) (firsts : Others) (bytes : List ℕ) (o : Option Heard) → heard_of c bytes ≡ o
    → fault_shown c firsts bytes ≡ option_and_then (faults_with c firsts bytes) o
fault-of c firsts bytes o e = ap (option_and_then (faults_with c firsts bytes)) e

-- outside the grammar it convicts as malformed
pub fault-outside : (c : Configuration) (firsts : Others) (bytes : List ℕ) (heard : Heard) → is_ok heard.content ≡ false
    → (v : Verdict) × (is_open v ≡ false) × ((more : Others) → faults_with c more bytes heard ≡ Some v)
fault-outside c firsts bytes heard outside =
    let told = cond-false (is_ok heard.content) None _ outside in
    (_, refl, λ more. first_some-some _ (malformed_conviction c bytes heard) (contradiction c more bytes heard ∷ []) told)

-- in the grammar it may contradict the post of its slot
pub fault-inside : (c : Configuration) (firsts : Others) (bytes : List ℕ) (heard : Heard) → is_ok heard.content ≡ true
    → faults_with c firsts bytes heard ≡ contradiction c firsts bytes heard
fault-inside c firsts bytes heard reads =
    first_some-none (malformed_conviction c bytes heard) (contradiction c firsts bytes heard ∷ [])
    (cond-true (is_ok heard.content) None _ reads)
    ∙ first_some-one (contradiction c firsts bytes heard)
  where
    first_some-one : (o : Option Verdict) → first_some (o ∷ []) ≡ o
    first_some-one None = refl
    first_some-one (Some x) = refl

-- no contradiction where the slot has nothing
pub contradiction-empty : (c : Configuration) (firsts : Others) (bytes : List ℕ) (heard : Heard) → firsts (slot_named heard.header) ≡ None
    → contradiction c firsts bytes heard ≡ None
contradiction-empty c firsts bytes heard e = ap (option_and_then (contradiction_with c bytes heard)) e

-- nor where it has this content; another one convicts
pub contradiction-full : (c : Configuration) (firsts : Others) (bytes : List ℕ) (heard : Heard) (post : Post)
    → firsts (slot_named heard.header) ≡ Some post
    → contradiction c firsts bytes heard ≡ contradiction_with c bytes heard post
contradiction-full c firsts bytes heard post e = ap (option_and_then (contradiction_with c bytes heard)) e

pub contradiction-same : (c : Configuration) (bytes : List ℕ) (heard : Heard) (post : Post) → post.content ≡ heard.post.content
    → contradiction_with c bytes heard post ≡ None
contradiction-same c bytes heard post same = cond-true (bytes_eq post.content heard.post.content) None _
    ((bytes_eq-Decides post.content heard.post.content).1 same)

pub contradiction-cases : (c : Configuration) (bytes : List ℕ) (heard : Heard) (post : Post)
    → ((post.content ≡ heard.post.content) × (contradiction_with c bytes heard post ≡ None))
    ⊎ ((v : Verdict) × (is_open v ≡ false) × (contradiction_with c bytes heard post ≡ Some v))
contradiction-cases c bytes heard post = elim (cases_Bool (bytes_eq post.content heard.post.content)) [
  | inl same ↦ inl (
    (bytes_eq-Decides post.content heard.post.content).0 same,
    cond-true (bytes_eq post.content heard.post.content) None _
        same,
  )
  | inr other ↦ inr (_, refl, cond-false (bytes_eq post.content heard.post.content) None _ other)
]

-- ---- endings

-- where no first part of the deliveries ends, all of them do not
pub none-ends : (c : Configuration) (delivered : List (List ℕ)) → least_ending c delivered ≡ None → ending_of c delivered ≡ None
unfolding least_ending
none-ends c delivered e =
    nothing_mapped (λ (verdict : Verdict). (length delivered, verdict)) (ending_of c delivered)
    (sym (ending-all c delivered (length delivered) (omega arith))
    ∙ first_below-each (ending_at c delivered) (suc (length delivered)) e (length delivered) (omega arith))

pub ending-open : (verdict : Verdict) → ending_verdict verdict ≡ None → is_open verdict ≡ true
ending-open Goes e = refl
ending-open Done e = absurd cc
ending-open (Convicts t) e = absurd cc

pub open-ending : (verdict : Verdict) → is_open verdict ≡ true → ending_verdict verdict ≡ None
open-ending verdict e = cond-true (is_open verdict) None (Some verdict) e

pub closed-ending : (verdict : Verdict) → is_open verdict ≡ false → ending_verdict verdict ≡ Some verdict
closed-ending verdict e = cond-false (is_open verdict) None (Some verdict) e

-- so the round is open then
pub none-open : (c : Configuration) (delivered : List (List ℕ)) → least_ending c delivered ≡ None
    → is_open (stand_after c delivered).verdict ≡ true
none-open c delivered e = ending-open (stand_after c delivered).verdict (ending-parts c delivered (none-ends c delivered e))

-- the last of deliveries with one more behind them
pub last-of : (delivered : List (List ℕ)) (bytes : List ℕ) → last_of (with_last delivered bytes) ≡ Some bytes
last-of delivered bytes =
    let at : length (with_last delivered bytes) - 1 ≡ length delivered + 0 = omega (arith, length-append delivered (bytes ∷ [])) in
    ap (slice_get (with_last delivered bytes)) at ∙ slice_get_right delivered (bytes ∷ []) 0
