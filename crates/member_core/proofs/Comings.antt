-- What a delivery comes to: the member behind it, and the answer.
use Rattle.std.proofs.Common.{◌≡◌, ◌⊎◌, ℕ, true, false, List, [], ◌∷◌, Option, Some, None, Result, Ok, Err, ap, sym, ◌∙◌, refl, subst, inl, inr}
use Rattle.std.specs.Prelude.{◌==◌, bytes_eq, is_ok, is_some, unwrap_or, if◌then◌else◌}
use Rattle.std.proofs.lemmas.Bool.{cases_Bool, cond-false, cond-true}
use Rattle.phase_message.specs.declared.header.Header.{Header}
use Rattle.phase_message.specs.declared.post.Post.{Post}
use Rattle.phase_message.specs.Offence.{content_read}
use Rattle.phase_message.specs.Post.{post_spelling}
use Rattle.phase_message.specs.Shape.{Shape}
use Rattle.signed_post.specs.declared.post.PostRefusal.{PostRefusal}
use Rattle.signed_post.specs.declared.post.PostRefusal.TheVariants.{Frame}
use Rattle.signed_post.specs.Admission.{admission_of_bytes, framed_admission_of}
use Rattle.signed_post.specs.Frame.{frame_of}
use Rattle.stage_log.specs.Table.{kept_in}
use Rattle.transcript_form.specs.declared.claim.Claim.TheVariants.{Equivocation, Malformed as Outside}
use Rattle.round_spec.specs.Embedded.{slot_named}
use Rattle.round_spec.specs.Say.{Configuration, shape_in}
use Rattle.round_spec.specs.Verdict.{Verdict, conviction}
use Rattle.round_spec.specs.Course.{is_open}
use Rattle.round_spec.specs.Result.{Heard, fault_shown, heard_of, heard_with}
use Rattle.wire_core.proofs.AnswerLemmas.{first_some-some}
use Rattle.member_spec.specs.declared.taken.Taken.{Taken}
use Rattle.member_spec.specs.declared.taken.Taken.TheVariants.{Evidence, Finished, Ignored, Own, Same}
use Rattle.member_spec.specs.Actor.{Actor, actor_behind_delivery, actor_behind_heard, actor_behind_repeat, actor_behind_steps, actor_with_heard}
use Rattle.member_spec.specs.Replies.{Replies}
use Rattle.member_spec.specs.Taking.{answer_by_end, answer_to, idle_answer, is_content, LeavesAll}
use Rattle.member_spec.proofs.Hearing.{contradiction-empty, contradiction-full, fault-inside, fault-of}
use Rattle.member_spec.proofs.Idle.{ended-delivery, nothing-delivered, open-delivery}
use Rattle.member_parts.specs.declared.finding.Found.{Found}
use Rattle.member_parts.specs.declared.finding.Found.TheVariants.{New, Same as Kept, Other, Malformed}
use Rattle.member_parts.specs.Finding.{found_beside, found_of}
use Rattle.member_core.specs.Found.{IsOfAnother}

-- a delivery leads a member to another, and is answered so
pub record ComesTo (replies : Replies) (c : Configuration) (a : Actor) (bytes : List ℕ) (b : Actor) (taken : Taken) : Type 0 where
  pub behind : actor_behind_delivery replies c a bytes ≡ b
  pub answer : answer_to replies c a bytes ≡ taken

-- what is heard of it
abbrev pub heard_so : Configuration → Header → Post → Heard
heard_so c header post = record { header = header; post = post; content = content_read (shape_in c) post.content }

-- ---- answers

by-end : (replies : Replies) (c : Configuration) (a : Actor) (bytes : List ℕ) → is_open a.ending ≡ true
    → answer_to replies c a bytes ≡ unwrap_or (idle_answer c a.log (admission_of_bytes c.roster c.round bytes))
    (answer_by_end (actor_behind_delivery replies c a bytes).ending)
unfolding answer_to
by-end replies c a bytes still = cond-true (is_open a.ending) _ Finished still

idle : (replies : Replies) (c : Configuration) (a : Actor) (bytes : List ℕ) (r : Result (Header × List ℕ) PostRefusal) (taken : Taken)
    → is_open a.ending ≡ true → admission_of_bytes c.roster c.round bytes ≡ r → idle_answer c a.log r ≡ Some taken
    → answer_to replies c a bytes ≡ taken
idle replies c a bytes r taken still admits told =
    by-end replies c a bytes still
    ∙ ap (λ (o : Option Taken). unwrap_or o (answer_by_end (actor_behind_delivery replies c a bytes).ending))
    (ap (idle_answer c a.log) admits ∙ told)

busy : (replies : Replies) (c : Configuration) (a : Actor) (bytes : List ℕ) (b : Actor) (r : Result (Header × List ℕ) PostRefusal)
    → is_open a.ending ≡ true → admission_of_bytes c.roster c.round bytes ≡ r → idle_answer c a.log r ≡ None
    → actor_behind_delivery replies c a bytes ≡ b → answer_to replies c a bytes ≡ answer_by_end b.ending
busy replies c a bytes b r still admits told behind =
    by-end replies c a bytes still
    ∙ ap (λ (o : Option Taken). unwrap_or o (answer_by_end (actor_behind_delivery replies c a bytes).ending))
    (ap (idle_answer c a.log) admits ∙ told)
    ∙ ap (λ (x : Actor). answer_by_end x.ending) behind

-- ---- deliveries that change nothing

pub ended-comes : (replies : Replies) (c : Configuration) (a : Actor) (bytes : List ℕ) → is_open a.ending ≡ false
    → ComesTo replies c a bytes a Finished
unfolding answer_to
ended-comes replies c a bytes ended = record {
  behind = ended-delivery replies c a bytes ended;
  answer = cond-false (is_open a.ending) _ Finished ended;
}

pub unframed-comes : (replies : Replies) (c : Configuration) (a : Actor) (bytes : List ℕ) (at : ℕ) → is_open a.ending ≡ true
    → frame_of bytes ≡ Err at
    → ComesTo replies c a bytes a (Ignored (Frame at))
unfolding heard_of
unframed-comes replies c a bytes at still e = record {
  behind = nothing-delivered replies c a bytes still (rw e refl);
  answer = idle replies c a bytes (Err (Frame at)) (Ignored (Frame at)) still (rw e refl) refl;
}

pub refused-comes : (replies : Replies) (c : Configuration) (a : Actor) (bytes : List ℕ) (post : Post) (refusal : PostRefusal)
    → is_open a.ending ≡ true
    → frame_of bytes ≡ Ok post → framed_admission_of c.roster c.round post ≡ Err refusal → ComesTo replies c a bytes a (Ignored refusal)
unfolding heard_of
refused-comes replies c a bytes post refusal still spelled e = record {
  behind = nothing-delivered replies c a bytes still (rw (spelled, e) refl);
  answer = idle replies c a bytes (Err refusal) (Ignored refusal) still (rw (spelled, e) refl) refl;
}

-- the checks pass a post, whoever made it
admits : (c : Configuration) (bytes : List ℕ) (post : Post) (header : Header) → frame_of bytes ≡ Ok post
    → framed_admission_of c.roster c.round post ≡ Ok header
    → admission_of_bytes c.roster c.round bytes ≡ Ok (header, post.content)
admits c bytes post header spelled e = rw (spelled, e) refl

hears : (c : Configuration) (bytes : List ℕ) (post : Post) (header : Header) → frame_of bytes ≡ Ok post
    → framed_admission_of c.roster c.round post ≡ Ok header
    → heard_of c bytes ≡ heard_with c post header
unfolding heard_of
hears c bytes post header spelled e = rw (spelled, e) refl

pub own-comes : (replies : Replies) (c : Configuration) (a : Actor) (bytes : List ℕ) (post : Post) (header : Header)
    → is_open a.ending ≡ true
    → frame_of bytes ≡ Ok post → framed_admission_of c.roster c.round post ≡ Ok header → (header.sender == c.number) ≡ true
    → ComesTo replies c a bytes a Own
own-comes replies c a bytes post header still spelled e own = record {
  behind = nothing-delivered replies c a bytes still (hears c bytes post header spelled e
      ∙ cond-true (header.sender == c.number) None _ own);
  answer = idle replies c a bytes (Ok (header, post.content)) Own still (admits c bytes post header spelled e)
      (cond-true (header.sender == c.number) (Some Own) _ own);
}

-- ---- posts of others

heard-so : (c : Configuration) (bytes : List ℕ) (header : Header) (post : Post) → IsOfAnother c.roster c.round c.number bytes header post
    → heard_of c bytes ≡ Some (heard_so c header post)
heard-so c bytes header post is = hears c bytes post header is.framed is.admitted ∙ cond-false (header.sender == c.number) None _ is.other

-- the answer, where the slot does not hold the content
new-idle : (c : Configuration) (a : Actor) (header : Header) (post : Post) → (header.sender == c.number) ≡ false
    → is_content post.content (kept_in a.log (slot_named header)) ≡ false → idle_answer c a.log (Ok (header, post.content)) ≡ None
new-idle c a header post other apart = cond-false (header.sender == c.number) (Some Own) _ other
    ∙ cond-false (is_content post.content (kept_in a.log (slot_named header))) (Some Same) None apart

-- where a fault is shown, it ends the round
fault-comes : (replies : Replies) (c : Configuration) (a : Actor) (bytes : List ℕ) (header : Header) (post : Post) (verdict : Verdict)
    → is_open a.ending ≡ true → IsOfAnother c.roster c.round c.number bytes header post
    → is_content post.content (kept_in a.log (slot_named header)) ≡ false
    → fault_shown c (kept_in a.log) bytes ≡ Some verdict → answer_by_end verdict ≡ Evidence
    → ComesTo replies c a bytes (record a { ending = verdict }) Evidence
fault-comes replies c a bytes header post verdict still is apart shown told =
    let behind = open-delivery replies c a bytes (Some verdict) still shown in
    record {
      behind = behind;
      answer = busy replies c a bytes (record a { ending = verdict }) (Ok (header, post.content)) still
          (admits c bytes post header is.framed is.admitted) (new-idle c a header post is.other apart) behind ∙ told;
    }

-- ---- what was found

-- a content that is kept
found-kept : (shape : Shape) (o : Option Post) (content : List ℕ) → found_of (shape) o content ≡ Kept → is_content content o ≡ true
found-kept shape o content e = elim (cases_Bool (is_content content o)) [
  | inl same ↦ same
  | inr apart ↦ by_read (cases_Bool (is_ok (content_read (shape) content))) apart
]
  where
    by_slot : (x : Option Post) → found_beside x ≡ Kept → is_content content o ≡ true
    by_slot None f = absurd cc
    by_slot (Some kept) f = absurd cc

    by_read : (is_ok (content_read (shape) content) ≡ true) ⊎ (is_ok (content_read (shape) content) ≡ false) → is_content content o ≡ false
        → is_content content o ≡ true
    by_read (inl reads) apart = by_slot o (sym (cond-true (is_ok (content_read (shape) content)) (found_beside o) Malformed reads)
        ∙ sym (cond-false (is_content content o) Kept _ apart) ∙ e)
    by_read (inr outside) apart = absurd (differ (sym (cond-false (is_ok (content_read (shape) content)) (found_beside o) Malformed outside)
        ∙ sym (cond-false (is_content content o) Kept _ apart) ∙ e))
      where
        differ : Malformed ≡ Kept → ⊥
        differ f = cc

-- the other findings: the content is not kept, and so it stands with its body
pub record IsNotKept (shape : Shape) (o : Option Post) (content : List ℕ) (found : Found) : Type 0 where
  pub apart : is_content content o ≡ false
  pub body : (if is_ok (content_read (shape) content) then found_beside o else Malformed) ≡ found

not-kept : (shape : Shape) (o : Option Post) (content : List ℕ) (found : Found) → found_of (shape) o content ≡ found → (found ≡ Kept → ⊥)
    → IsNotKept shape o content found
not-kept shape o content found e unlike = elim (cases_Bool (is_content content o)) [
  | inl same ↦ absurd (unlike (sym e ∙ cond-true (is_content content o) Kept _ same))
  | inr apart ↦ record { apart = apart; body = sym (cond-false (is_content content o) Kept _ apart) ∙ e }
]

-- a body in the grammar, where it is not malformed
body-reads : (shape : Shape) (o : Option Post) (content : List ℕ) (found : Found)
    → (if is_ok (content_read (shape) content) then found_beside o else Malformed) ≡ found → (found ≡ Malformed → ⊥)
    → (is_ok (content_read (shape) content) ≡ true) × (found_beside o ≡ found)
body-reads shape o content found e unlike = elim (cases_Bool (is_ok (content_read (shape) content))) [
  | inl reads ↦ (reads, sym (cond-true (is_ok (content_read (shape) content)) (found_beside o) Malformed reads) ∙ e)
  | inr outside ↦ absurd (unlike (sym e ∙ cond-false (is_ok (content_read (shape) content)) (found_beside o) Malformed outside))
]

-- one outside the grammar, where it is
body-outside : (shape : Shape) (o : Option Post) (content : List ℕ)
    → (if is_ok (content_read (shape) content) then found_beside o else Malformed) ≡ Malformed
    → is_ok (content_read (shape) content) ≡ false
body-outside shape o content e = elim (cases_Bool (is_ok (content_read (shape) content))) [
  | inr outside ↦ outside
  | inl reads ↦ by_slot o (sym (cond-true (is_ok (content_read (shape) content)) (found_beside o) Malformed reads) ∙ e)
]
  where
    by_slot : (x : Option Post) → found_beside x ≡ Malformed → is_ok (content_read (shape) content) ≡ false
    by_slot None f = absurd cc
    by_slot (Some kept) f = absurd cc

pub same-comes : (replies : Replies) (c : Configuration) (a : Actor) (bytes : List ℕ) (header : Header) (post : Post)
    → is_open a.ending ≡ true
    → (LeavesAll (answer_to replies c a bytes) → actor_behind_delivery replies c a bytes ≡ a)
    → IsOfAnother c.roster c.round c.number bytes header post → found_of (shape_in c) (kept_in a.log (slot_named header)) post.content ≡
    Kept
    → ComesTo replies c a bytes a Same
same-comes replies c a bytes header post still steady is found =
    let same = found-kept (shape_in c) (kept_in a.log (slot_named header)) post.content found in
    let told = idle replies c a bytes (Ok (header, post.content)) Same still (admits c bytes post header is.framed is.admitted)
    (cond-false (header.sender == c.number) (Some Own) _ is.other
    ∙ cond-true (is_content post.content (kept_in a.log (slot_named header))) (Some Same) None same) in
    record { behind = steady (subst LeavesAll (sym told) tt); answer = told }

pub malformed-comes : (replies : Replies) (c : Configuration) (a : Actor) (bytes : List ℕ) (header : Header) (post : Post)
    → is_open a.ending ≡ true
    → IsOfAnother c.roster c.round c.number bytes header post → found_of (shape_in c) (kept_in a.log (slot_named header)) post.content ≡
    Malformed
    → ComesTo replies c a bytes (record a { ending = conviction c.round header.sender Outside (bytes ∷ []) }) Evidence
malformed-comes replies c a bytes header post still is found =
    let at = not-kept (shape_in c) (kept_in a.log (slot_named header)) post.content Malformed found (λ e. cc) in
    let outside = body-outside (shape_in c) (kept_in a.log (slot_named header)) post.content at.body in
    let verdict : Verdict = conviction c.round header.sender Outside (bytes ∷ []) in
    fault-comes replies c a bytes header post verdict still is at.apart
    (fault-of c (kept_in a.log) bytes (Some (heard_so c header post)) (heard-so c bytes header post is)
    ∙ first_some-some verdict _ _ (cond-false (is_ok (content_read (shape_in c) post.content)) None (Some verdict) outside)) refl

pub other-comes : (replies : Replies) (c : Configuration) (a : Actor) (bytes : List ℕ) (header : Header) (post first : Post)
    → is_open a.ending ≡ true
    → IsOfAnother c.roster c.round c.number bytes header post → kept_in a.log (slot_named header) ≡ Some first
    → found_of (shape_in c) (kept_in a.log (slot_named header)) post.content ≡ Other
    → ComesTo replies c a bytes (record a { ending = conviction c.round header.sender Equivocation (post_spelling first ∷ bytes ∷ []) })
    Evidence
other-comes replies c a bytes header post first still is there found =
    let at = not-kept (shape_in c) (kept_in a.log (slot_named header)) post.content Other found (λ e. cc) in
    let reads = body-reads (shape_in c) (kept_in a.log (slot_named header)) post.content Other at.body (λ e. cc) in
    let verdict : Verdict = conviction c.round header.sender Equivocation (post_spelling first ∷ bytes ∷ []) in
    let apart : bytes_eq first.content post.content ≡ false = sym (ap (is_content post.content) there) ∙ at.apart in
    fault-comes replies c a bytes header post verdict still is at.apart
    (fault-of c (kept_in a.log) bytes (Some (heard_so c header post)) (heard-so c bytes header post is)
    ∙ fault-inside c (kept_in a.log) bytes (heard_so c header post) reads.0
    ∙ contradiction-full c (kept_in a.log) bytes (heard_so c header post) first there
    ∙ cond-false (bytes_eq first.content post.content) None (Some verdict) apart) refl

-- a new content is of the grammar, and its slot is empty
pub record IsNew (shape : Shape) (o : Option Post) (content : List ℕ) : Type 0 where
  pub reads : is_ok (content_read shape content) ≡ true
  pub empty : o ≡ None

pub found-new : (shape : Shape) (o : Option Post) (content : List ℕ) → found_of shape o content ≡ New → IsNew shape o content
found-new shape o content found =
    let at = not-kept shape o content New found (λ e. cc) in
    let body = body-reads shape o content New at.body (λ e. cc) in
    record { reads = body.0; empty = by_slot o body.1 }
  where
    by_slot : (x : Option Post) → found_beside x ≡ New → x ≡ None
    by_slot None f = refl
    by_slot (Some kept) f = absurd cc

-- the slot of another content keeps a post
pub found-other : (shape : Shape) (o : Option Post) (content : List ℕ) → found_of shape o content ≡ Other → (first : Post)
    × (o ≡ Some first)
found-other shape o content found =
    let at = not-kept shape o content Other found (λ e. cc) in
    by_slot o (body-reads shape o content Other at.body (λ e. cc)).1
  where
    by_slot : (x : Option Post) → found_beside x ≡ Other → (first : Post) × (x ≡ Some first)
    by_slot (Some kept) f = (kept, refl)
    by_slot None f = absurd cc

pub new-comes : (replies : Replies) (c : Configuration) (a : Actor) (bytes : List ℕ) (header : Header) (post : Post)
    → is_open a.ending ≡ true
    → IsOfAnother c.roster c.round c.number bytes header post → found_of (shape_in c) (kept_in a.log (slot_named header)) post.content ≡ New
    → let b = actor_behind_steps replies c (actor_behind_repeat replies c (actor_with_heard a (heard_so c header post)) a.mood) in
    ComesTo replies c a bytes b (answer_by_end b.ending)
new-comes replies c a bytes header post still is found =
    let heard : Heard = heard_so c header post in
    let b : Actor = actor_behind_steps replies c (actor_behind_repeat replies c (actor_with_heard a heard) a.mood) in
    let new = found-new (shape_in c) (kept_in a.log (slot_named header)) post.content found in
    let behind : actor_behind_delivery replies c a bytes ≡ b =
    open-delivery replies c a bytes None still
    (fault-of c (kept_in a.log) bytes (Some heard) (heard-so c bytes header post is)
    ∙ fault-inside c (kept_in a.log) bytes heard new.reads
    ∙ contradiction-empty c (kept_in a.log) bytes heard new.empty)
    ∙ ap (actor_behind_heard replies c a) (heard-so c bytes header post is)
    ∙ cond-false (is_some (kept_in a.log (slot_named header))) a b (ap is_some new.empty) in
    record {
      behind = behind;
      answer = busy replies c a bytes b (Ok (header, post.content)) still (admits c bytes post header is.framed is.admitted)
          (new-idle c a header post is.other (ap (is_content post.content) new.empty)) behind;
    }
