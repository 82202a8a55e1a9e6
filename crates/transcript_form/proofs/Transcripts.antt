-- The laws of transcripts: what is read is spelled so, and what is spelled so is read.
use Rattle.std.proofs.Common.{◌≡◌, ℕ, zero, suc, ◌+◌, ◌<◌, ◌^◌, Bool, true, false, not, List, [], ◌∷◌, ◌++◌, length, drop, None, Result, Ok, Err, refl, sym, ap, subst, ◌∙◌, arith, append_assoc, append-nil, length-append}
use Rattle.std.specs.Prelude.{◌==◌, slice_index, IfOk}
use Rattle.std.specs.Option.{option_map}
use Rattle.std.specs.List.{flat_map, AllByRecursion}
use Rattle.std.specs.Int.{w32, to_be_bytes}
use Rattle.std.proofs.lemmas.Bool.{eqb-true, not-false}
use Rattle.std.proofs.lemmas.List.{nil_from_length}
use Rattle.wire_core.specs.declared.cursor.Short.{Short}
use Rattle.wire_core.specs.Bytes.{IsBytes}
use Rattle.wire_core.proofs.ByteLists.{IsBytes-front, IsBytes-back}
use Rattle.wire_core.specs.Reading.{Reading, reading_of, reading_at, ◌>>=◌, fault_as, unless, Gives, bytes_at, number_at, repeated, Takes}
use Rattle.wire_core.proofs.Readings.{bind_ok, fault_as_ok, guard_ok, Takes-append, Takes-bytes, bytes_at-takes, bytes_at-again, number_at-takes_4, number_at-again_4, repeated-takes, repeated-again}
use Rattle.phase_message.specs.Grammar.{prefixed}
use Rattle.phase_message.specs.Shape.{Shape, IsShape}
use Rattle.wire_core.specs.Answers.{value_unless}
use Rattle.wire_core.specs.Places.{first_unlike}
use Rattle.wire_core.proofs.AnswerLemmas.{value_unless-ok, nothing_mapped}
use Rattle.wire_core.proofs.ListLemmas.{split_once}
use Rattle.wire_core.proofs.PlaceLemmas.{first_unlike-begins, first_unlike-again}
use Rattle.transcript_form.specs.declared.claim.Claim.{Claim}
use Rattle.transcript_form.specs.declared.refusal.FailedForm.{FailedForm}
use Rattle.transcript_form.specs.declared.refusal.FailedForm.TheVariants.{Magic, Form}
use Rattle.transcript_form.specs.declared.refusal.Refused.{Refused}
use Rattle.transcript_form.specs.declared.transcript.Transcript.{Transcript}
use Rattle.transcript_form.specs.Claim.{claim_posts}
use Rattle.transcript_form.specs.Form.{or_cut, behind_magic, claim_read, Head, head_at, listed_at, transcript_of, transcript_read, ListedExactly}
use Rattle.transcript_form.specs.Refusals.{failure_of_form, failure_of_refusal}
use Rattle.transcript_form.specs.Transcript.{transcript_magic, head_spelling, transcript_spelling, IsTranscript}
use Rattle.transcript_form.proofs.Claims.{claim_posts-most}
use Rattle.transcript_form.proofs.Heads.{cut, head_text, IsHead, head_at-claim, head_at-takes, head_at-again}

-- ---- a listed post

listed_at-takes : (size : ℕ) (r : Reading) (x : List ℕ × Reading) → IsBytes r.rest → listed_at size r ≡ Ok x → Takes (prefixed x.0) r x.1
    × (length x.0 < 2 ^ 32)
unfolding listed_at
listed_at-takes size r x fits e =
    let a = bind_ok (or_cut size (number_at w32 r)) _ x e in
    let n = number_at-takes_4 r a.0 fits (fault_as_ok (cut size) (number_at w32 r) a.0 a.1) in
    let p = bytes_at-takes a.0.0 a.0.1 x (fault_as_ok (cut size) (bytes_at a.0.0 a.0.1) x a.2) in
    let whole = Takes-append (to_be_bytes w32 a.0.0) x.0 r a.0.1 x.1 n.0 p.0 in
    (subst (λ (m : ℕ). Takes (to_be_bytes w32 m ++ x.0) r x.1) (sym p.1) whole, omega (arith, n.1, p.1))

listed_at-again : (size : ℕ) (post : List ℕ) (place : ℕ) (rest : List ℕ) → length post < 2 ^ 32
    → listed_at size (reading_at place (prefixed post ++ rest)) ≡ Ok (post, reading_at (place + length (prefixed post)) rest)
unfolding listed_at
listed_at-again size post place rest small =
    let head = to_be_bytes w32 (length post) in
    let long : place + 4 + length post ≡ place + length (prefixed post) = omega (arith, length-append head post) in
    let told : ℕ → Result (List ℕ × Reading) FailedForm = λ k. Ok (post, reading_at k rest) in
    ap (listed_at size) (ap (reading_at place) (append_assoc head post rest))
    ∙ ap (λ (r : Result (ℕ × Reading) Short). or_cut size r >>= λ n. or_cut size (bytes_at n.0 n.1))
    (number_at-again_4 (length post) place (post ++ rest) small)
    ∙ ap (λ (r : Result (List ℕ × Reading) Short). or_cut size r) (bytes_at-again (length post) post rest (place + 4) refl)
    ∙ ap told long

-- ---- the magic

behind_magic-takes : (bytes : List ℕ) (r : Reading) → IsBytes bytes → behind_magic bytes ≡ Ok r
    → Takes transcript_magic (reading_of bytes) r
unfolding behind_magic
behind_magic-takes bytes r fits e =
    let size = length bytes in
    let a = bind_ok (value_unless (option_map (λ at. Magic at) (first_unlike transcript_magic bytes)) (reading_of bytes)) _ r e in
    let b = bind_ok (or_cut size (bytes_at 5 a.0)) _ r a.2 in
    let begins = value_unless-ok (option_map (λ at. Magic at) (first_unlike transcript_magic bytes)) (reading_of bytes) a.0 a.1 in
    let none = nothing_mapped (λ at. Magic at) (first_unlike transcript_magic bytes) begins.0 in
    let five = bytes_at-takes 5 a.0 b.0 (fault_as_ok (cut size) (bytes_at 5 a.0) b.0 b.1) in
    let from : Takes b.0.0 (reading_of bytes) b.0.1 = subst (λ (s : Reading). Takes b.0.0 s b.0.1) (sym begins.1) five.0 in
    let begun : bytes ≡ transcript_magic ++ drop 5 bytes = first_unlike-begins transcript_magic bytes none in
    let parts = split_once b.0.0 transcript_magic b.0.1.rest (drop 5 bytes) five.1 (sym from.text_is ∙ begun) in
    let magic : b.0.0 ≡ transcript_magic = parts.0 in
    let same : b.0.1 ≡ r = (let e : done b.0.1 ≡ done r = b.2 in cc) in
    subst (λ (s : Reading). Takes transcript_magic (reading_of bytes) s) same
    (subst (λ (x : List ℕ). Takes x (reading_of bytes) b.0.1) magic from)
  where
    done : Reading → Result Reading FailedForm
    done s = Ok s

behind_magic-again : (rest : List ℕ) → behind_magic (transcript_magic ++ rest) ≡ Ok (reading_at 5 rest)
unfolding behind_magic
behind_magic-again rest =
    rw (first_unlike-again transcript_magic rest, bytes_at-again 5 transcript_magic rest 0 refl) refl

-- ---- the whole

-- the text of a head and of its posts is that of the transcript behind the magic
joined : (shape : Shape) (h : Head) (posts : List (List ℕ)) → length posts ≡ claim_posts shape h.claim
    → head_text shape h ≡ head_spelling (transcript_of h posts)
joined shape h posts count = rw count refl

pub transcript_read-found : (shape : Shape) (bytes : List ℕ) (t : Transcript) → IsBytes bytes → transcript_read shape bytes ≡ Ok t
    → IsTranscript shape t × (bytes ≡ transcript_spelling t)
unfolding transcript_read
transcript_read-found shape bytes t fits e =
    let size = length bytes in
    let a = bind_ok (behind_magic bytes) _ t e in
    let c = bind_ok (head_at shape size a.0) _ t a.2 in
    let d = bind_ok (repeated (claim_posts shape c.0.0.claim) (listed_at size) c.0.1) _ t c.2 in
    let made : Transcript = transcript_of c.0.0 d.0.0 in
    let ended = guard_ok (not (length d.0.1.rest == 0)) (Form d.0.1.place) made t d.2 in
    let magic = behind_magic-takes bytes a.0 fits a.1 in
    let r1 = (Takes-bytes transcript_magic (reading_of bytes) a.0 magic fits).1 in
    let head = head_at-takes shape size a.0 c.0 r1 c.1 in
    let r2 = (Takes-bytes (head_text shape c.0.0) a.0 c.0.1 head.0 r1).1 in
    let posts = repeated-takes prefixed (λ post. length post < 2 ^ 32) (listed_at size) (λ r x fits e. listed_at-takes size r x fits e)
    (claim_posts shape c.0.0.claim) c.0.1 d.0 r2 d.1 in
    let nothing : d.0.1.rest ≡ [] = nil_from_length d.0.1.rest (eqb-true (length d.0.1.rest) 0 (not-false (length d.0.1.rest == 0) ended.0))
    in
    let listed : c.0.1.rest ≡ flat_map prefixed d.0.0 = posts.0.text_is ∙ ap (λ (x : List ℕ). flat_map prefixed d.0.0 ++ x) nothing
    ∙ append-nil (flat_map prefixed d.0.0) in
    let behind : a.0.rest ≡ head_spelling made ++ flat_map prefixed d.0.0 =
    head.0.text_is ∙ ap (λ (x : List ℕ). head_text shape c.0.0 ++ x) listed
    ∙ ap (λ (x : List ℕ). x ++ flat_map prefixed d.0.0) (joined shape c.0.0 d.0.0 posts.2) in
    let text : bytes ≡ transcript_spelling made = magic.text_is ∙ ap (λ (x : List ℕ). transcript_magic ++ x) behind in
    let is : IsTranscript shape made = record {
      accused = head.1.accused;
      round = head.1.round;
      detail = head.1.detail;
      count = posts.2;
      posts = posts.1;
    } in
    subst (λ (t : Transcript). IsTranscript shape t × (bytes ≡ transcript_spelling t)) ended.1 (is, text)

-- how bytes are read, part by part
pub transcript_reads : (shape : Shape) (bytes : List ℕ) (begins : Reading) (head : Head × Reading) (posts : List (List ℕ) × Reading)
    → behind_magic bytes ≡ Ok begins → head_at shape (length bytes) begins ≡ Ok head
    → repeated (claim_posts shape head.0.claim) (listed_at (length bytes)) head.1 ≡ Ok posts
    → transcript_read shape bytes ≡ unless (not (length posts.1.rest == 0)) (Form posts.1.place) (transcript_of head.0 posts.0)
unfolding transcript_read
transcript_reads shape bytes begins head posts e1 e2 e3 = rw (e1, e2, e3) refl

pub transcript_read-again : (shape : Shape) (t : Transcript) → IsShape shape.version shape.members → IsTranscript shape t
    → transcript_read shape (transcript_spelling t) ≡ Ok t
transcript_read-again shape t is_shape is =
    let h : Head = record { claim = t.claim; accused = t.accused; round = t.round; detail = t.detail } in
    let text = flat_map prefixed t.posts in
    let rest = head_spelling t ++ text in
    let bytes = transcript_magic ++ rest in
    let size = length bytes in
    let place = 5 + length (head_text shape h) in
    let most = claim_posts-most shape t.claim is_shape in
    let fits : IsHead shape h = record { accused = is.accused; round = is.round; detail = is.detail } in
    let head : head_at shape size (reading_at 5 rest) ≡ Ok (h, reading_at place text) =
    ap (λ (x : List ℕ). head_at shape size (reading_at 5 (x ++ text))) (sym (joined shape h t.posts is.count))
    ∙ head_at-again shape size h 5 text (omega arith) fits in
    let posts : repeated (claim_posts shape t.claim) (listed_at size) (reading_at place text) ≡ Ok
    (t.posts, reading_at (place + length text) []) =
    ap (λ (m : ℕ). repeated m (listed_at size) (reading_at place text)) (sym is.count)
    ∙ ap (λ (x : List ℕ). repeated (length t.posts) (listed_at size) (reading_at place x)) (sym (append-nil text))
    ∙ repeated-again prefixed (λ post. length post < 2 ^ 32) (listed_at size)
    (λ post place rest small. listed_at-again size post place rest small) t.posts place [] is.posts in
    transcript_reads shape bytes (reading_at 5 rest) (h, reading_at place text) (t.posts, reading_at (place + length text) [])
    (behind_magic-again rest) head posts

pub listed_exactly : ListedExactly
listed_exactly shape bytes t is_shape fits = (
  transcript_read-found shape bytes t fits,
  λ spelled. ap (transcript_read shape) spelled.1
      ∙ transcript_read-again shape t is_shape spelled.0,
)

-- ---- what the reader answers

-- a value that it answers is spelled so
pub answered-found : (shape : Shape) (bytes : List ℕ) (result : Result Transcript Refused) → IsBytes bytes
    → Gives failure_of_refusal (λ t. t) result (fault_as failure_of_form (transcript_read shape bytes))
    → IfOk result (λ t. IsTranscript shape t × (bytes ≡ transcript_spelling t))
answered-found shape bytes (Ok t) fits gives = transcript_read-found shape bytes t fits
    (fault_as_ok failure_of_form (transcript_read shape bytes) t gives)
answered-found shape bytes (Err e) fits gives = tt

-- what is spelled so is answered, but for memory
pub answered-only : (shape : Shape) (bytes : List ℕ) (result : Result Transcript Refused) (t : Transcript)
    → IsShape shape.version shape.members
    → Gives failure_of_refusal (λ t. t) result (fault_as failure_of_form (transcript_read shape bytes)) → IsTranscript shape t
    → bytes ≡ transcript_spelling t → Gives failure_of_refusal (λ t. t) result (Ok t)
answered-only shape bytes result t is_shape gives is spelled =
    subst (λ (r : Result Transcript FailedForm). Gives failure_of_refusal (λ t. t) result (fault_as failure_of_form r))
    (ap (transcript_read shape) spelled ∙ transcript_read-again shape t is_shape is) gives

-- the claim of a transcript that was read is the one that its bytes have
pub claim_read-transcript : (shape : Shape) (bytes : List ℕ) (t : Transcript) → transcript_read shape bytes ≡ Ok t
    → claim_read bytes ≡ Ok t.claim
unfolding transcript_read claim_read head_at
claim_read-transcript shape bytes t e =
    let size = length bytes in
    let a = bind_ok (behind_magic bytes) _ t e in
    let c = bind_ok (head_at shape size a.0) _ t a.2 in
    let d = bind_ok (repeated (claim_posts shape c.0.0.claim) (listed_at size) c.0.1) _ t c.2 in
    let ended = guard_ok (not (length d.0.1.rest == 0)) (Form d.0.1.place) (transcript_of c.0.0 d.0.0) t d.2 in
    let claim = head_at-claim shape size a.0 c.0 c.1 in
    let told : Claim → Result Claim FailedForm = λ claim. Ok claim in
    rw (a.1, claim.1) (ap told (claim.2 ∙ ap (λ (t : Transcript). t.claim) ended.1))

-- the listed posts of bytes are bytes
posts-bytes : (posts : List (List ℕ)) → IsBytes (flat_map prefixed posts) → AllByRecursion IsBytes posts
posts-bytes [] fits = tt
posts-bytes (post ∷ posts) fits = (
  IsBytes-back (to_be_bytes w32 (length post)) post (IsBytes-front (prefixed post) (flat_map prefixed posts) fits),
  posts-bytes posts
      (IsBytes-back (prefixed post) (flat_map prefixed posts) fits),
)

pub transcript-bytes : (t : Transcript) → IsBytes (transcript_spelling t) → AllByRecursion IsBytes t.posts
transcript-bytes t fits =
    posts-bytes t.posts (IsBytes-back (head_spelling t) (flat_map prefixed t.posts)
    (IsBytes-back transcript_magic (head_spelling t ++ flat_map prefixed t.posts) fits))
