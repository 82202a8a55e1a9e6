-- Hearing the listed posts one after the other.
use Rattle.std.proofs.Common.{◌≡◌, ℕ, Bool, true, false, not, List, [], ◌∷◌, length, Option, Some, None, Result, Ok, Err, refl, sym, ap, ◌∙◌, arith}
use Rattle.std.specs.Prelude.{bytes_eq, is_ok, IsOk}
use Rattle.std.specs.Prelude.{if◌then◌else◌}
use Rattle.std.proofs.lemmas.Bool.{cond-true, cond-false}
use Rattle.std.proofs.lemmas.List.{nil_from_length}
use Rattle.wire_core.specs.Reading.{◌>>=◌, IsFault, fault_as}
use Rattle.phase_message.specs.declared.header.Header.{Header}
use Rattle.wire_core.proofs.Readings.{bind_ok, fault_as_ok}
use Rattle.wire_core.specs.Answers.{fault_unless, value_unless}
use Rattle.wire_core.proofs.AnswerLemmas.{value_unless-ok}
use Rattle.phase_message.specs.Offence.{content_read}
use Rattle.phase_message.specs.declared.content.Content.{Content}
use Rattle.group_roster.specs.Roster.{shape_of_roster}
use Rattle.transcript_form.specs.declared.claim.Claim.{Claim}
use Rattle.transcript_form.specs.declared.claim.Claim.TheVariants.{Equivocation, Malformed, WrongSeed, BadLog}
use Rattle.judge_core.specs.declared.failed_check.FailedCheck.{FailedCheck}
use Rattle.judge_core.specs.declared.failed_check.FailedCheck.TheVariants.{Body as FailedBody, Same, WellFormed, SeedFits, Justified, Post as RefusedPost, Slot}
use Rattle.judge_core.specs.Checks.{WantsMemory, content_of, conviction_of, heard_of, hearing_of, is_asked, is_closing_stage, is_of_bodies, is_of_logs, is_seed_right, is_slot_asked, own_failure, taken_of}
use Rattle.std.proofs.Common.{subst}
use Rattle.std.specs.Prelude.{IsSome, is_some, option_and_then}
use Rattle.std.proofs.lemmas.Bool.{not-false}
use Rattle.wire_core.specs.declared.cursor.Short.{Short}
use Rattle.wire_core.proofs.Readings.{guard_ok}
use Rattle.phase_message.specs.declared.stage.StageKind.{StageKind}
use Rattle.phase_message.specs.Header.{header_of}
use Rattle.phase_message.specs.Stages.{kind_of_stage, vote_of}
use Rattle.signed_post.specs.declared.post.PostRefusal.{PostRefusal}
use Rattle.signed_post.specs.declared.post.PostRefusal.TheVariants.{Frame}
use Rattle.signed_post.specs.Admission.{admission_of_bytes, framed_admission_of, header_refusal}
use Rattle.signed_post.specs.Frame.{frame_of}
use Rattle.judge_core.specs.Closing.{IsClosingPost, is_justified_in}
use Rattle.judge_core.specs.Case.{Case, Said, shape_in}

-- two posts are all
pub two_posts : (posts rest others : List (List ℕ)) (first second : List ℕ) → posts ≡ first ∷ rest → rest ≡ second ∷ others
    → length posts ≡ 2 → posts ≡ first ∷ second ∷ []
two_posts posts rest others first second e f two =
    e ∙ ap (λ (x : List (List ℕ)). first ∷ x) (f ∙ ap (λ (x : List (List ℕ)). second ∷ x)
    (nil_from_length others (omega (arith, ap length e, ap length f))))

abbrev said_ok : Said → Result Said FailedCheck
said_ok said = Ok said

abbrev list_ok : List Said → Result (List Said) FailedCheck
list_ok said = Ok said

pub list_is : (a b : List Said) → list_ok a ≡ list_ok b → a ≡ b
list_is a b e = cc

-- ---- two posts

-- a first one that is not heard ends the hearing
pub two-first : (case : Case) (first second : List ℕ) (e : FailedCheck) → taken_of case None 1 first ≡ Err e
    → conviction_of case (first ∷ second ∷ []) ≡ Err e
unfolding conviction_of hearing_of
two-first case first second e e1 = rw e1 refl

-- and so does a second
pub two-second : (case : Case) (first second : List ℕ) (a : Said) (e : FailedCheck) → taken_of case None 1 first ≡ Ok a
    → taken_of case (Some a.header) 2 second ≡ Err e → conviction_of case (first ∷ second ∷ []) ≡ Err e
unfolding conviction_of hearing_of
two-second case first second a e e1 e2 = rw (e1, e2) refl

-- where both are heard, the claim's own checks decide
pub two-both : (case : Case) (first second : List ℕ) (a b : Said) → taken_of case None 1 first ≡ Ok a
    → taken_of case (Some a.header) 2 second ≡ Ok b → conviction_of case (first ∷ second ∷ []) ≡ value_unless
    (own_failure case.claim case (a ∷ b ∷ [])) (tt {0})
unfolding conviction_of hearing_of
two-both case first second a b e1 e2 = rw (e1, e2) refl

-- where the conviction stands, both are heard and no check of the claim fails
pub record BothHeard (case : Case) (first second : List ℕ) : Type 0 where
  pub a : Said
  pub b : Said
  pub first_heard : taken_of case None 1 first ≡ Ok a
  pub second_heard : taken_of case (Some a.header) 2 second ≡ Ok b
  pub passes : own_failure case.claim case (a ∷ b ∷ []) ≡ None

pub both_heard : (case : Case) (first second : List ℕ) → conviction_of case (first ∷ second ∷ []) ≡ Ok tt → BothHeard case first second
unfolding conviction_of hearing_of
both_heard case first second e =
    let said = bind_ok (hearing_of case None 1 (first ∷ second ∷ [])) _ tt e in
    let a = bind_ok (taken_of case None 1 first) _ said.0 said.1 in
    let others = bind_ok (hearing_of case (Some a.0.header) 2 (second ∷ [])) _ said.0 a.2 in
    let b = bind_ok (taken_of case (Some a.0.header) 2 second) _ others.0 others.1 in
    let last : b.0 ∷ [] ≡ others.0 = list_is (b.0 ∷ []) others.0 b.2 in
    let all : a.0 ∷ b.0 ∷ [] ≡ said.0 = ap (λ (x : List Said). a.0 ∷ x) last ∙ list_is (a.0 ∷ others.0) said.0 others.2 in
    let passes = value_unless-ok (own_failure case.claim case said.0) (tt {0}) (tt {0}) said.2 in
    record { a = a.0; b = b.0; first_heard = a.1; second_heard = b.1; passes = ap (own_failure case.claim case) all ∙ passes.0 }

abbrev pub verdict : Option FailedCheck → Result (Unit {0}) FailedCheck
verdict failure = value_unless failure (tt {0})

-- ---- the same of a call that may run out of memory

pub first-fault : (case : Case) (first : List ℕ) (others : List (List ℕ)) (o : Option FailedCheck) → IsFault o (taken_of case None 1 first)
    → IsFault o (conviction_of case (first ∷ others))
unfolding conviction_of hearing_of
first-fault case first others None fault = tt
first-fault case first others (Some e) fault = rw fault refl

pub second-fault : (case : Case) (first second : List ℕ) (others : List (List ℕ)) (a : Said) (o : Option FailedCheck)
    → taken_of case None 1 first ≡ Ok a
    → IsFault o (taken_of case (Some a.header) 2 second) → IsFault o (conviction_of case (first ∷ second ∷ others))
unfolding conviction_of hearing_of
second-fault case first second others a None taken fault = tt
second-fault case first second others a (Some e) taken fault = rw (taken, fault) refl

-- ---- the claims of two posts

-- what Equivocation asks of what both say
pub equal_contents : (case : Case) (a b : Said) → case.claim ≡ Equivocation → bytes_eq a.content b.content ≡ true
    → verdict (own_failure case.claim case (a ∷ b ∷ [])) ≡ Err Same
equal_contents case a b is same =
    ap (λ (c : Claim). verdict (own_failure c case (a ∷ b ∷ []))) is ∙ rw same refl

pub other_contents : (case : Case) (a b : Said) → case.claim ≡ Equivocation → bytes_eq a.content b.content ≡ false
    → verdict (own_failure case.claim case (a ∷ b ∷ [])) ≡ Ok tt
other_contents case a b is other =
    ap (λ (c : Claim). verdict (own_failure c case (a ∷ b ∷ []))) is ∙ rw other refl

-- what WrongSeed asks of what both say
pub right_seed : (case : Case) (a b : Said) → case.claim ≡ WrongSeed → is_seed_right (shape_of_roster case.roster) (a ∷ b ∷ []) ≡ true
    → verdict (own_failure case.claim case (a ∷ b ∷ [])) ≡ Err SeedFits
right_seed case a b is right =
    ap (λ (c : Claim). verdict (own_failure c case (a ∷ b ∷ []))) is ∙ ap (λ (r : Bool). verdict (fault_unless (not r) SeedFits)) right

pub other_seed : (case : Case) (a b : Said) → case.claim ≡ WrongSeed → is_seed_right (shape_of_roster case.roster) (a ∷ b ∷ []) ≡ false
    → verdict (own_failure case.claim case (a ∷ b ∷ [])) ≡ Ok tt
other_seed case a b is other =
    ap (λ (c : Claim). verdict (own_failure c case (a ∷ b ∷ []))) is ∙ ap (λ (r : Bool). verdict (fault_unless (not r) SeedFits)) other

-- ---- one post

-- one post is all
pub one_post : (posts rest : List (List ℕ)) (only : List ℕ) → posts ≡ only ∷ rest → length posts ≡ 1 → posts ≡ only ∷ []
one_post posts rest only e one =
    e ∙ ap (λ (x : List (List ℕ)). only ∷ x) (nil_from_length rest (omega (arith, ap length e)))

-- one that is not heard ends the hearing
pub one-unheard : (case : Case) (only : List ℕ) (e : FailedCheck) → taken_of case None 1 only ≡ Err e
    → conviction_of case (only ∷ []) ≡ Err e
unfolding conviction_of hearing_of
one-unheard case only e e1 = rw e1 refl

-- where it is heard, the claim's own checks decide
pub one-heard : (case : Case) (only : List ℕ) (a : Said) → taken_of case None 1 only ≡ Ok a
    → conviction_of case (only ∷ []) ≡ value_unless (own_failure case.claim case (a ∷ [])) (tt {0})
unfolding conviction_of hearing_of
one-heard case only a e1 = rw e1 refl

-- where the conviction stands, it is heard and no check of the claim fails
pub record OneHeard (case : Case) (only : List ℕ) : Type 0 where
  pub a : Said
  pub heard : taken_of case None 1 only ≡ Ok a
  pub passes : own_failure case.claim case (a ∷ []) ≡ None

pub one_heard : (case : Case) (only : List ℕ) → conviction_of case (only ∷ []) ≡ Ok tt → OneHeard case only
unfolding conviction_of hearing_of
one_heard case only e =
    let said = bind_ok (hearing_of case None 1 (only ∷ [])) _ tt e in
    let a = bind_ok (taken_of case None 1 only) _ said.0 said.1 in
    let all : a.0 ∷ [] ≡ said.0 = list_is (a.0 ∷ []) said.0 a.2 in
    let passes = value_unless-ok (own_failure case.claim case said.0) (tt {0}) (tt {0}) said.2 in
    record { a = a.0; heard = a.1; passes = ap (own_failure case.claim case) all ∙ passes.0 }

-- what Malformed asks of what it says
pub formed : (case : Case) (a : Said) → case.claim ≡ Malformed → is_ok (content_read (shape_of_roster case.roster) a.content) ≡ true
    → verdict (own_failure case.claim case (a ∷ [])) ≡ Err WellFormed
formed case a is well =
    ap (λ (c : Claim). verdict (own_failure c case (a ∷ []))) is ∙ rw well refl

pub unformed : (case : Case) (a : Said) → case.claim ≡ Malformed → is_ok (content_read (shape_of_roster case.roster) a.content) ≡ false
    → verdict (own_failure case.claim case (a ∷ [])) ≡ Ok tt
unformed case a is other =
    ap (λ (c : Claim). verdict (own_failure c case (a ∷ []))) is ∙ rw other refl

-- ---- what is taken is heard

-- where the claim looks at no body, it is what is heard
pub taken-plain : (case : Case) (first : Option Header) (number : ℕ) (bytes : List ℕ) → is_of_bodies case.claim ≡ false
    → taken_of case first number bytes ≡ heard_of case first number bytes
unfolding taken_of
taken-plain case first number bytes plain = plain_of (heard_of case first number bytes)
  where
    plain_of : (heard : Result Said FailedCheck) → heard >>= (λ said. if is_of_bodies case.claim then
        (content_of case first number said.content >>= λ content. Ok said) else Ok said) ≡ heard
    plain_of (Ok said) = cond-false (is_of_bodies case.claim) _ _ plain
    plain_of (Err e) = refl

-- what is taken was heard, and its content passes where the claim looks at bodies
pub taken-heard : (case : Case) (first : Option Header) (number : ℕ) (bytes : List ℕ) (said : Said)
    → taken_of case first number bytes ≡ Ok said → heard_of case first number bytes ≡ Ok said
unfolding taken_of
taken-heard case first number bytes said e =
    let heard = bind_ok (heard_of case first number bytes) _ said e in
    heard.1 ∙ kept (is_of_bodies case.claim) heard.0 (content_of case first number heard.0.content) heard.2
  where
    kept : (b : Bool) (a : Said) (read : Result Content FailedCheck)
        → (if b then (read >>= λ content. said_ok a) else said_ok a) ≡ said_ok said → said_ok a ≡ said_ok said
    kept true a (Ok content) e = e
    kept true a (Err failed) e = absurd cc
    kept false a read e = e

pub taken-read : (case : Case) (first : Option Header) (number : ℕ) (bytes : List ℕ) (said : Said) → is_of_bodies case.claim ≡ true
    → taken_of case first number bytes ≡ Ok said
    → (content : Content) × (content_of case first number said.content ≡ Ok content)
unfolding taken_of
taken-read case first number bytes said bodies e =
    let heard = bind_ok (heard_of case first number bytes) _ said e in
    let rest = sym (cond-true (is_of_bodies case.claim) (content_of case first number heard.0.content >>= λ content. said_ok heard.0)
    (said_ok heard.0) bodies) ∙ heard.2 in
    let read = bind_ok (content_of case first number heard.0.content) (λ content. said_ok heard.0) said rest in
    (read.0, ap (λ (x : Said). content_of case first number x.content) (sym (one_said heard.0 said read.2)) ∙ read.1)
  where
    one_said : (a b : Said) → said_ok a ≡ said_ok b → a ≡ b
    one_said a b e = cc

pub taken-again : (case : Case) (first : Option Header) (number : ℕ) (bytes : List ℕ) (said : Said) (content : Content)
    → heard_of case first number bytes ≡ Ok said
    → content_of case first number said.content ≡ Ok content → taken_of case first number bytes ≡ Ok said
unfolding taken_of
taken-again case first number bytes said content heard read =
    ap (λ (r : Result Said FailedCheck). r >>= λ said. if is_of_bodies case.claim then
    (content_of case first number said.content >>= λ content. said_ok said) else said_ok said) heard
    ∙ either (is_of_bodies case.claim) (content_of case first number said.content) read
  where
    either : (b : Bool) (r : Result Content FailedCheck) → r ≡ Ok content
        → (if b then (r >>= λ content. said_ok said) else said_ok said) ≡ said_ok said
    either true (Ok c) e = refl
    either true (Err failed) e = absurd cc
    either false r e = refl

pub ok_is : {A E : Type 0} (r : Result A E) (x : A) → r ≡ Ok x → IsOk r
ok_is (Ok y) x e = refl
ok_is (Err f) x e = absurd cc

-- what is taken of a post whose body is looked at is of the grammar
pub taken-grammar : (case : Case) (first : Option Header) (number : ℕ) (bytes : List ℕ) (said : Said) → is_of_bodies case.claim ≡ true
    → taken_of case first number bytes ≡ Ok said → IsOk (content_read (shape_of_roster case.roster) said.content)
unfolding content_of
taken-grammar case first number bytes said bodies e =
    let looked = taken-read case first number bytes said bodies e in
    let read = bind_ok (fault_as (λ offence. FailedBody number offence.at) (content_read (shape_of_roster case.roster) said.content)) _
    looked.0 looked.1 in
    ok_is (content_read (shape_of_roster case.roster) said.content) read.0
    (fault_as_ok (λ offence. FailedBody number offence.at) (content_read (shape_of_roster case.roster) said.content) read.0 read.1)

-- where the only post is taken, all are
pub one-wants : (case : Case) (only : List ℕ) (a : Said) → is_of_logs case.claim ≡ true → taken_of case None 1 only ≡ Ok a
    → WantsMemory case (only ∷ [])
unfolding hearing_of
one-wants case only a logs e = (logs, rw e refl)

-- what BadLog asks of what it says
pub borne_out : (case : Case) (a : Said) → case.claim ≡ BadLog → is_justified_in case a ≡ true
    → verdict (own_failure case.claim case (a ∷ [])) ≡ Err Justified
borne_out case a is justified =
    ap (λ (c : Claim). verdict (own_failure c case (a ∷ []))) is ∙ ap (λ (b : Bool). verdict (fault_unless (not b) Justified)) justified

pub unborne : (case : Case) (a : Said) → case.claim ≡ BadLog → is_justified_in case a ≡ false
    → verdict (own_failure case.claim case (a ∷ [])) ≡ Ok tt
unborne case a is other =
    ap (λ (c : Claim). verdict (own_failure c case (a ∷ []))) is ∙ ap (λ (b : Bool). verdict (fault_unless (not b) Justified)) other

-- ---- the header of what is heard

is-closing-some : (o : Option StageKind) → is_some o ≡ true → IsSome o
is-closing-some (Some kind) e = refl
is-closing-some None e = absurd cc

pub is-closing : (o : Option StageKind) → is_closing_stage o ≡ true → IsSome (option_and_then vote_of o)
is-closing o e = is-closing-some (option_and_then vote_of o) e

abbrev header_ok : Header → Result Header Short
header_ok header = Ok header

abbrev admitted_ok : Header × List ℕ → Result (Header × List ℕ) PostRefusal
admitted_ok x = Ok x

-- its content begins with its header, and the claim asks for it
pub heard-parts : (case : Case) (first : Option Header) (number : ℕ) (bytes : List ℕ) (x : Said) → heard_of case first number bytes ≡ Ok x
    → (header_of x.content ≡ Ok x.header) × (is_asked case first number x.header ≡ true)
unfolding heard_of framed_admission_of
heard-parts case first number bytes x e =
    let a = bind_ok (fault_as (λ refusal. RefusedPost number refusal) (admission_of_bytes case.roster case.round bytes)) _ x e in
    let said : Said = record { header = a.0.0; content = a.0.1 } in
    let asked = guard_ok (not (is_asked case first number a.0.0)) (Slot number a.0.0.stage) said x a.2 in
    let found = fault_as_ok (λ refusal. RefusedPost number refusal) (admission_of_bytes case.roster case.round bytes) a.0 a.1 in
    let framed = bind_ok (fault_as (λ at. Frame at) (frame_of bytes)) _ a.0 found in
    let header = bind_ok (framed_admission_of case.roster case.round framed.0) _ a.0 framed.2 in
    let reads = bind_ok (fault_as (λ (short : Short). Frame 0) (header_of framed.0.content))
    (λ header. value_unless (header_refusal case.roster case.round framed.0 header) header) header.0 header.1 in
    let kept = value_unless-ok (header_refusal case.roster case.round framed.0 reads.0) reads.0 header.0 reads.2 in
    let same : (header.0, framed.0.content) ≡ a.0 = (let e : admitted_ok (header.0, framed.0.content) ≡ admitted_ok a.0 = header.2 in cc) in
    let is : header_of framed.0.content ≡ Ok header.0 = fault_as_ok (λ (short : Short). Frame 0) (header_of framed.0.content) reads.0
    reads.1 ∙ ap header_ok kept.1 in
    let there : header_of a.0.1 ≡ Ok a.0.0 = subst (λ (y : Header × List ℕ). header_of y.1 ≡ Ok y.0) same is in
    subst (λ (x : Said). (header_of x.content ≡ Ok x.header) × (is_asked case first number x.header ≡ true)) asked.1
    (there, not-false (is_asked case first number a.0.0) asked.0)

-- a closing post that is taken
pub closing-post : (case : Case) (first : Option Header) (number : ℕ) (bytes : List ℕ) (said : Said) → is_of_bodies case.claim ≡ true
    → taken_of case first number bytes ≡ Ok said
    → is_closing_stage (kind_of_stage (shape_in case) said.header.stage) ≡ true → IsClosingPost case said
closing-post case first number bytes said bodies e closing =
    record {
      grammar = taken-grammar case first number bytes said bodies e;
      header = (heard-parts case first number bytes said (taken-heard case first number bytes said e)).0;
      closing = is-closing (kind_of_stage (shape_in case) said.header.stage) closing;
    }

-- of a claim's slot what it asks for
pub asked-as : (case : Case) (claim : Claim) (first : Option Header) (number : ℕ) (bytes : List ℕ) (said : Said) → case.claim ≡ claim
    → taken_of case first number bytes ≡ Ok said
    → is_slot_asked claim case (kind_of_stage (shape_in case) said.header.stage) first number said.header ≡ true
asked-as case claim first number bytes said is e =
    subst (λ (c : Claim). is_slot_asked c case (kind_of_stage (shape_in case) said.header.stage) first number said.header ≡ true) is
    (heard-parts case first number bytes said (taken-heard case first number bytes said e)).1
