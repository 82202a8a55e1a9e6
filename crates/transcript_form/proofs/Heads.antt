-- What stands before the posts of a transcript: what is read is spelled so, and what is spelled so is read.
use Rattle.std.proofs.Common.{◌≡◌, ℕ, zero, suc, ◌+◌, ◌<◌, ◌^◌, Bool, true, false, not, List, [], ◌∷◌, ◌++◌, length, Option, Some, None, Result, Ok, Err, refl, sym, ap, subst, ◌∙◌, arith, append_assoc, append-nil, length-append}
use Rattle.std.specs.Prelude.{◌==◌}
use Rattle.std.specs.Option.{ok_or}
use Rattle.std.specs.Int.{w8, w32, w64, to_be_bytes}
use Rattle.std.proofs.lemmas.Bool.{eqb-true, eq-eqb, not-false}
use Rattle.wire_core.specs.declared.cursor.Short.{Short}
use Rattle.wire_core.specs.Bytes.{IsBytes}
use Rattle.wire_core.specs.Reading.{Reading, reading_at, ◌>>=◌, unless, bytes_at, number_at, Takes}
use Rattle.wire_core.proofs.Readings.{bind_ok, fault_as_ok, guard_ok, Takes-none, Takes-append, Takes-bytes, bytes_at-takes, bytes_at-again, number_at-takes_1, number_at-takes_4, number_at-takes_8, number_at-again_1, number_at-again_4, number_at-again_8}
use Rattle.phase_message.specs.Shape.{Shape}
use Rattle.phase_message.specs.Stages.{is_member}
use Rattle.transcript_form.specs.declared.accusation.Accusation.{Accusation}
use Rattle.transcript_form.specs.declared.claim.Claim.{Claim}
use Rattle.transcript_form.specs.declared.claim.Claim.TheVariants.{Equivocation, Malformed, WrongSeed, BadLog, Replay, Pad}
use Rattle.transcript_form.specs.declared.refusal.FailedForm.{FailedForm}
use Rattle.transcript_form.specs.declared.refusal.FailedForm.TheVariants.{Form, Count}
use Rattle.transcript_form.specs.Accusation.{accusation_at, accusation_of, accusation_spelling, IsAccusation}
use Rattle.transcript_form.specs.Claim.{claim_number, claim_of, claim_posts}
use Rattle.transcript_form.specs.Form.{or_cut, claim_at, accused_at, detail_at, count_at, Head, head_at}
use Rattle.transcript_form.specs.Transcript.{detail_spelling, HasDetail}
use Rattle.transcript_form.proofs.Accusations.{spelling-accusation_at, accusation_of-long, accusation_of-spelling}
use Rattle.transcript_form.proofs.Claims.{claim_of-number, claim_of-found}

abbrev pub cut : ℕ → Short → FailedForm
cut size short = Form size

abbrev pub read_ok : {A : Type 0} → A × Reading → Result (A × Reading) FailedForm
read_ok x = Ok x

pub ok_is : {A : Type 0} (x y : A × Reading) → read_ok x ≡ read_ok y → x ≡ y
ok_is x y e = cc

ok_or-ok : {A E : Type 0} (o : Option A) (e : E) (x : A) → ok_or o e ≡ Ok x → o ≡ Some x
ok_or-ok (Some y) e x h = cc
ok_or-ok None e x h = absurd cc

-- ---- the claim

claim_at-takes : (size : ℕ) (r : Reading) (x : Claim × Reading) → IsBytes r.rest → claim_at size r ≡ Ok x
    → Takes (claim_number x.0 ∷ []) r x.1
unfolding claim_at
claim_at-takes size r x fits e =
    let a = bind_ok (or_cut size (number_at w8 r)) _ x e in
    let b = bind_ok (ok_or (claim_of a.0.0) (Form r.place)) _ x a.2 in
    let number = number_at-takes_1 r a.0 fits (fault_as_ok (cut size) (number_at w8 r) a.0 a.1) in
    let is : a.0.0 ≡ claim_number b.0 = claim_of-found a.0.0 b.0 (ok_or-ok (claim_of a.0.0) _ b.0 b.1) in
    let same : (b.0, a.0.1) ≡ x = (let e : read_ok (b.0, a.0.1) ≡ read_ok x = b.2 in cc) in
    subst (λ (x : Claim × Reading). Takes (claim_number x.0 ∷ []) r x.1) same (subst (λ (n : ℕ). Takes (n ∷ []) r a.0.1) is number.0)

claim_at-again : (size : ℕ) (claim : Claim) (place : ℕ) (rest : List ℕ)
    → claim_at size (reading_at place (claim_number claim ∷ rest)) ≡ Ok (claim, reading_at (place + 1) rest)
unfolding claim_at
claim_at-again size claim place rest = rw (number_at-again_1 (claim_number claim) place rest, claim_of-number claim) refl

-- ---- the accused

accused_at-takes : (shape : Shape) (size : ℕ) (r : Reading) (x : ℕ × Reading) → IsBytes r.rest → accused_at shape size r ≡ Ok x
    → Takes (x.0 ∷ []) r x.1 × (is_member shape.members x.0 ≡ true)
unfolding accused_at
accused_at-takes shape size r x fits e =
    let a = bind_ok (or_cut size (number_at w8 r)) _ x e in
    let member = guard_ok (not (is_member shape.members a.0.0)) (Form r.place) a.0 x a.2 in
    let number = number_at-takes_1 r a.0 fits (fault_as_ok (cut size) (number_at w8 r) a.0 a.1) in
    subst (λ (x : ℕ × Reading). Takes (x.0 ∷ []) r x.1 × (is_member shape.members x.0 ≡ true)) member.1
    (number.0, not-false (is_member shape.members a.0.0) member.0)

accused_at-again : (shape : Shape) (size accused place : ℕ) (rest : List ℕ) → is_member shape.members accused ≡ true
    → accused_at shape size (reading_at place (accused ∷ rest)) ≡ Ok (accused, reading_at (place + 1) rest)
unfolding accused_at
accused_at-again shape size accused place rest member = rw (number_at-again_1 accused place rest, member) refl

-- ---- the accusation

abbrev IsDetailAt : Claim → Reading → Option Accusation × Reading → Type 0
IsDetailAt claim r x = Takes (detail_spelling x.0) r x.1 × HasDetail claim x.0

accusation_at-takes : (size : ℕ) (r : Reading) (x : Option Accusation × Reading) → detail_at Pad size r ≡ Ok x → IsDetailAt Pad r x
unfolding detail_at
accusation_at-takes size r x e =
    let a = bind_ok (or_cut size (bytes_at 34 r)) _ x e in
    let bytes = bytes_at-takes 34 r a.0 (fault_as_ok (cut size) (bytes_at 34 r) a.0 a.1) in
    let spelled = spelling-accusation_at a.0.0 bytes.1 in
    let made : Option Accusation × Reading = (Some (accusation_at a.0.0), a.0.1) in
    let told : (accusation_of a.0.0, a.0.1) ≡ made = ap (λ (o : Option Accusation). pair o a.0.1) (accusation_of-long a.0.0 bytes.1) in
    let same : (accusation_of a.0.0, a.0.1) ≡ x = (let e : read_ok (accusation_of a.0.0, a.0.1) ≡ read_ok x = a.2 in cc) in
    subst (λ (x : Option Accusation × Reading). IsDetailAt Pad r x) (sym told ∙ same)
    (subst (λ (t : List ℕ). Takes t r a.0.1) spelled.1 bytes.0, spelled.0)
  where
    pair : Option Accusation → Reading → Option Accusation × Reading
    pair o r = (o, r)

-- where the claim has no accusation, nothing was read
nothing-takes : (claim : Claim) (r : Reading) (x : Option Accusation × Reading) → HasDetail claim None
    → read_ok {A = Option Accusation} (None, r) ≡ read_ok x → IsDetailAt claim r x
nothing-takes claim r x none e =
    let nothing : Option Accusation × Reading = (None, r) in
    let same : nothing ≡ x = cc in
    subst (λ (x : Option Accusation × Reading). IsDetailAt claim r x) same (Takes-none r, none)

detail_at-takes : (claim : Claim) (size : ℕ) (r : Reading) (x : Option Accusation × Reading) → detail_at claim size r ≡ Ok x
    → IsDetailAt claim r x
unfolding detail_at
detail_at-takes Equivocation size r x e = nothing-takes Equivocation r x tt e
detail_at-takes Malformed size r x e = nothing-takes Malformed r x tt e
detail_at-takes WrongSeed size r x e = nothing-takes WrongSeed r x tt e
detail_at-takes BadLog size r x e = nothing-takes BadLog r x tt e
detail_at-takes Replay size r x e = nothing-takes Replay r x tt e
detail_at-takes Pad size r x e = accusation_at-takes size r x e

nothing-again : (claim : Claim) (size place : ℕ) (rest : List ℕ)
    → detail_at claim size (reading_at place rest) ≡ Ok (None, reading_at place rest)
    → detail_at claim size (reading_at place rest) ≡ Ok (None, reading_at (place + 0) rest)
nothing-again claim size place rest e =
    let told : ℕ → Result (Option Accusation × Reading) FailedForm = λ k. Ok (None, reading_at k rest) in
    let stays : place ≡ place + 0 = omega arith in
    e ∙ ap told stays

accusation_at-again : (accusation : Accusation) (size place : ℕ) (rest : List ℕ) → IsAccusation accusation
    → detail_at Pad size (reading_at place (accusation_spelling accusation ++ rest)) ≡ Ok
    (Some accusation, reading_at (place + length (accusation_spelling accusation)) rest)
unfolding detail_at
accusation_at-again accusation size place rest is =
    let long : length (accusation_spelling accusation) ≡ 34 = omega (arith, is) in
    let told : ℕ → Result (Option Accusation × Reading) FailedForm = λ k. Ok (Some accusation, reading_at (place + k) rest) in
    rw (bytes_at-again 34 (accusation_spelling accusation) rest place long, accusation_of-spelling accusation is) (ap told (sym long))

detail_at-again : (claim : Claim) (detail : Option Accusation) (size place : ℕ) (rest : List ℕ) → HasDetail claim detail
    → detail_at claim size (reading_at place (detail_spelling detail ++ rest)) ≡ Ok
    (detail, reading_at (place + length (detail_spelling detail)) rest)
unfolding detail_at
detail_at-again Pad (Some accusation) size place rest is = accusation_at-again accusation size place rest is
detail_at-again Pad None size place rest is = absurd is
detail_at-again Equivocation None size place rest is = nothing-again Equivocation size place rest refl
detail_at-again Malformed None size place rest is = nothing-again Malformed size place rest refl
detail_at-again WrongSeed None size place rest is = nothing-again WrongSeed size place rest refl
detail_at-again BadLog None size place rest is = nothing-again BadLog size place rest refl
detail_at-again Replay None size place rest is = nothing-again Replay size place rest refl
detail_at-again Equivocation (Some accusation) size place rest is = absurd is
detail_at-again Malformed (Some accusation) size place rest is = absurd is
detail_at-again WrongSeed (Some accusation) size place rest is = absurd is
detail_at-again BadLog (Some accusation) size place rest is = absurd is
detail_at-again Replay (Some accusation) size place rest is = absurd is

-- ---- the number of posts

count_at-takes : (wanted size : ℕ) (r : Reading) (x : ℕ × Reading) → IsBytes r.rest → count_at wanted size r ≡ Ok x
    → Takes (to_be_bytes w32 wanted) r x.1
unfolding count_at
count_at-takes wanted size r x fits e =
    let a = bind_ok (or_cut size (number_at w32 r)) _ x e in
    let wants = guard_ok (not (a.0.0 == wanted)) (Count r.place) a.0 x a.2 in
    let number = number_at-takes_4 r a.0 fits (fault_as_ok (cut size) (number_at w32 r) a.0 a.1) in
    let is : a.0.0 ≡ wanted = eqb-true a.0.0 wanted (not-false (a.0.0 == wanted) wants.0) in
    subst (λ (x : ℕ × Reading). Takes (to_be_bytes w32 wanted) r x.1) wants.1
    (subst (λ (n : ℕ). Takes (to_be_bytes w32 n) r a.0.1) is number.0)

count_at-again : (wanted size place : ℕ) (rest : List ℕ) → wanted < 2 ^ 32
    → count_at wanted size (reading_at place (to_be_bytes w32 wanted ++ rest)) ≡ Ok (wanted, reading_at (place + 4) rest)
unfolding count_at
count_at-again wanted size place rest small =
    let is : (wanted == wanted) ≡ true = eq-eqb wanted wanted refl in
    rw (number_at-again_4 wanted place rest small, is) refl

-- ---- the whole head

-- a head as it is spelled
abbrev pub head_text : Shape → Head → List ℕ
head_text shape h =
    (claim_number h.claim ∷ []) ++ ((h.accused ∷ []) ++ (to_be_bytes w64 h.round
    ++ (detail_spelling h.detail ++ to_be_bytes w32 (claim_posts shape h.claim))))

-- a head that has a spelling
pub record IsHead (shape : Shape) (h : Head) : Type 0 where
  pub accused : is_member shape.members h.accused ≡ true
  pub round : h.round < 2 ^ 64
  pub detail : HasDetail h.claim h.detail

pub head_at-takes : (shape : Shape) (size : ℕ) (r : Reading) (x : Head × Reading) → IsBytes r.rest → head_at shape size r ≡ Ok x
    → Takes (head_text shape x.0) r x.1 × IsHead shape x.0
unfolding head_at
head_at-takes shape size r x fits e =
    let a = bind_ok (claim_at size r) _ x e in
    let b = bind_ok (accused_at shape size a.0.1) _ x a.2 in
    let c = bind_ok (or_cut size (number_at w64 b.0.1)) _ x b.2 in
    let d = bind_ok (detail_at a.0.0 size c.0.1) _ x c.2 in
    let f = bind_ok (count_at (claim_posts shape a.0.0) size d.0.1) _ x d.2 in
    let claim = claim_at-takes size r a.0 fits a.1 in
    let r1 = (Takes-bytes (claim_number a.0.0 ∷ []) r a.0.1 claim fits).1 in
    let accused = accused_at-takes shape size a.0.1 b.0 r1 b.1 in
    let r2 = (Takes-bytes (b.0.0 ∷ []) a.0.1 b.0.1 accused.0 r1).1 in
    let round = number_at-takes_8 b.0.1 c.0 r2 (fault_as_ok (cut size) (number_at w64 b.0.1) c.0 c.1) in
    let r3 = (Takes-bytes (to_be_bytes w64 c.0.0) b.0.1 c.0.1 round.0 r2).1 in
    let detail = detail_at-takes a.0.0 size c.0.1 d.0 d.1 in
    let r4 = (Takes-bytes (detail_spelling d.0.0) c.0.1 d.0.1 detail.0 r3).1 in
    let count = count_at-takes (claim_posts shape a.0.0) size d.0.1 f.0 r4 f.1 in
    let t4 = Takes-append (detail_spelling d.0.0) _ c.0.1 d.0.1 f.0.1 detail.0 count in
    let t3 = Takes-append (to_be_bytes w64 c.0.0) _ b.0.1 c.0.1 f.0.1 round.0 t4 in
    let t2 = Takes-append (b.0.0 ∷ []) _ a.0.1 b.0.1 f.0.1 accused.0 t3 in
    let t1 = Takes-append (claim_number a.0.0 ∷ []) _ r a.0.1 f.0.1 claim t2 in
    let head : Head = record { claim = a.0.0; accused = b.0.0; round = c.0.0; detail = d.0.0 } in
    let same : (head, f.0.1) ≡ x = ok_is (head, f.0.1) x f.2 in
    subst (λ (x : Head × Reading). Takes (head_text shape x.0) r x.1 × IsHead shape x.0) same
    (t1, record { accused = accused.1; round = round.1; detail = detail.1 })

-- a head begins with its claim
pub head_at-claim : (shape : Shape) (size : ℕ) (r : Reading) (x : Head × Reading) → head_at shape size r ≡ Ok x → (claim : Claim × Reading)
    × (claim_at size r ≡ Ok claim) × (claim.0 ≡ x.0.claim)
unfolding head_at
head_at-claim shape size r x e =
    let a = bind_ok (claim_at size r) _ x e in
    let b = bind_ok (accused_at shape size a.0.1) _ x a.2 in
    let c = bind_ok (or_cut size (number_at w64 b.0.1)) _ x b.2 in
    let d = bind_ok (detail_at a.0.0 size c.0.1) _ x c.2 in
    let f = bind_ok (count_at (claim_posts shape a.0.0) size d.0.1) _ x d.2 in
    let head : Head = record { claim = a.0.0; accused = b.0.0; round = c.0.0; detail = d.0.0 } in
    (a.0, a.1, ap (λ (x : Head × Reading). x.0.claim) (ok_is (head, f.0.1) x f.2))

-- how a head is read, field by field
head_reads : (shape : Shape) (size : ℕ) (r : Reading) (claim : Claim × Reading) (accused round : ℕ × Reading)
    (detail : Option Accusation × Reading) (count : ℕ × Reading)
    → claim_at size r ≡ Ok claim → accused_at shape size claim.1 ≡ Ok accused → number_at w64 accused.1 ≡ Ok round
    → detail_at claim.0 size round.1 ≡ Ok detail → count_at (claim_posts shape claim.0) size detail.1 ≡ Ok count
    → head_at shape size r ≡ Ok (record { claim = claim.0; accused = accused.0; round = round.0; detail = detail.0 }, count.1)
unfolding head_at
head_reads shape size r claim accused round detail count e1 e2 e3 e4 e5 = rw (e1, e2, e3, e4, e5) refl

pub head_at-again : (shape : Shape) (size : ℕ) (h : Head) (place : ℕ) (rest : List ℕ) → claim_posts shape h.claim < 2 ^ 32 → IsHead shape h
    → head_at shape size (reading_at place (head_text shape h ++ rest)) ≡ Ok (h, reading_at (place + length (head_text shape h)) rest)
head_at-again shape size h place rest small is =
    let round = to_be_bytes w64 h.round in
    let detail = detail_spelling h.detail in
    let count = to_be_bytes w32 (claim_posts shape h.claim) in
    let r4 = count ++ rest in
    let r3 = detail ++ r4 in
    let r2 = round ++ r3 in
    let grouped : (round ++ (detail ++ count)) ++ rest ≡ r2 = append_assoc round (detail ++ count) rest
    ∙ ap (λ (x : List ℕ). round ++ x) (append_assoc detail count rest) in
    let whole : head_text shape h ++ rest ≡ claim_number h.claim ∷ h.accused ∷ r2 = ap
    (λ (x : List ℕ). claim_number h.claim ∷ h.accused ∷ x) grouped in
    let ends : place + 1 + 1 + 8 + length detail + 4 ≡ place + length (head_text shape h) = omega
    (arith, length-append round (detail ++ count), length-append detail count) in
    let told : ℕ → Result (Head × Reading) FailedForm = λ k. Ok (h, reading_at k rest) in
    ap (λ (x : List ℕ). head_at shape size (reading_at place x)) whole
    ∙ head_reads shape size (reading_at place (claim_number h.claim ∷ h.accused ∷ r2)) (h.claim, reading_at (place + 1) (h.accused ∷ r2))
    (h.accused, reading_at (place + 1 + 1) r2) (h.round, reading_at (place + 1 + 1 + 8) r3)
    (h.detail, reading_at (place + 1 + 1 + 8 + length detail) r4)
    (claim_posts shape h.claim, reading_at (place + 1 + 1 + 8 + length detail + 4) rest)
    (claim_at-again size h.claim place (h.accused ∷ r2)) (accused_at-again shape size h.accused (place + 1) r2 is.accused)
    (number_at-again_8 h.round (place + 1 + 1) r3 is.round) (detail_at-again h.claim h.detail size (place + 1 + 1 + 8) r4 is.detail)
    (count_at-again (claim_posts shape h.claim) size (place + 1 + 1 + 8 + length detail) rest small)
    ∙ ap told ends
