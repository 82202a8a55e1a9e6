-- What is heard and taken of one listed post, in the words of what convicts.
use Rattle.std.proofs.Common.{◌≡◌, ℕ, Bool, true, false, not, ◌&&◌, List, ◌++◌, length, Option, Some, None, Result, Ok, refl, sym, ap, subst, ◌∙◌}
use Rattle.std.specs.Int.{w32, to_be_bytes}
use Rattle.std.proofs.lemmas.Bool.{not-false}
use Rattle.wire_core.specs.Bytes.{IsBytes}
use Rattle.wire_core.proofs.ByteLists.{IsBytes-front, IsBytes-back}
use Rattle.wire_core.specs.Answers.{fault_as}
use Rattle.wire_core.proofs.Readings.{bind_ok, fault_as_ok, guard_ok}
use Rattle.wire_core.specs.declared.cursor.Short.{Short}
use Rattle.phase_message.specs.declared.content.Content.{Content}
use Rattle.phase_message.specs.declared.stage.StageKind.{StageKind}
use Rattle.phase_message.specs.Stages.{kind_of_stage, vote_of}
use Rattle.phase_message.specs.declared.header.Header.{Header}
use Rattle.phase_message.specs.declared.post.Post.{Post}
use Rattle.phase_message.specs.Grammar.{kind_number}
use Rattle.phase_message.specs.Offence.{content_read}
use Rattle.phase_message.proofs.Whole.{content-header}
use Rattle.group_roster.specs.Roster.{Roster, shape_of_roster}
use Rattle.signed_post.specs.declared.post.PostRefusal.{PostRefusal}
use Rattle.signed_post.specs.declared.post.PostRefusal.TheVariants.{Frame}
use Rattle.signed_post.specs.Frame.{frame_of}
use Rattle.signed_post.specs.Admission.{framed_admission_of, admission_of_bytes, IsPostFile, Says}
use Rattle.signed_post.proofs.Frames.{framed-found, framed-again, framed-bytes}
use Rattle.signed_post.proofs.Admits.{admit-found, admit-again}
use Rattle.transcript_form.specs.declared.claim.Claim.{Claim}
use Rattle.judge_core.specs.declared.failed_check.FailedCheck.TheVariants.{Post as RefusedPost, Slot, Body as FailedBody, Kind}
use Rattle.judge_core.specs.Checks.{content_of, is_asked, is_closing_stage, is_kind_asked, is_of_bodies, is_slot_asked, heard_of, taken_of}
use Rattle.judge_core.specs.Case.{Case, Said}
use Rattle.std.specs.Prelude.{IsSome, is_some, option_and_then}
use Rattle.judge_core.proofs.Hearings.{taken-heard, taken-read, taken-again}

-- ---- a listed post

abbrev admitted_ok : Header × List ℕ → Result (Header × List ℕ) PostRefusal
admitted_ok x = Ok x

says-found : (roster : Roster) (round : ℕ) (bytes : List ℕ) (x : Header × List ℕ) → IsBytes bytes
    → admission_of_bytes roster round bytes ≡ Ok x → Says roster round bytes x.1 x.0
says-found roster round bytes x fits e =
    let a = bind_ok (fault_as (λ at. Frame at) (frame_of bytes)) _ x e in
    let b = bind_ok (framed_admission_of roster round a.0) _ x a.2 in
    let frame = framed-found bytes a.0 fits (fault_as_ok (λ at. Frame at) (frame_of bytes) a.0 a.1) in
    let same : (b.0, a.0.content) ≡ x = (let e : admitted_ok (b.0, a.0.content) ≡ admitted_ok x = b.2 in cc) in
    let says : Says roster round bytes a.0.content b.0 = record {
      signature = a.0.signature;
      spelled = frame.1;
      admitted = admit-found roster round a.0 b.0 frame.0
          (framed-bytes bytes a.0 fits (fault_as_ok (λ at. Frame at) (frame_of bytes) a.0 a.1)) b.1;
    } in
    subst (λ (x : Header × List ℕ). Says roster round bytes x.1 x.0) same says

says-again : (roster : Roster) (round : ℕ) (bytes content : List ℕ) (header : Header) → Says roster round bytes content header
    → admission_of_bytes roster round bytes ≡ Ok (header, content)
says-again roster round bytes content header says =
    let post : Post = record { content = content; signature = says.signature } in
    let frame : frame_of bytes ≡ Ok post = ap frame_of says.spelled ∙ framed-again post says.admitted.frame in
    rw (frame, admit-again roster round post header says.admitted) refl

-- what a post says are bytes
pub says-bytes : (roster : Roster) (round : ℕ) (bytes content : List ℕ) (header : Header) → IsBytes bytes
    → Says roster round bytes content header → IsBytes content
says-bytes roster round bytes content header fits says =
    let spelled : IsBytes (to_be_bytes w32 (length content) ++ content ++ says.signature) = subst (λ (x : List ℕ). IsBytes x) says.spelled
    fits in
    IsBytes-back (to_be_bytes w32 (length content)) content (IsBytes-front (to_be_bytes w32 (length content) ++ content) says.signature
    spelled)

-- a post that is heard says what is heard, and the claim asks for it
pub heard-found : (case : Case) (first : Option Header) (number : ℕ) (bytes : List ℕ) (x : Said) → IsBytes bytes
    → heard_of case first number bytes ≡ Ok x
    → Says case.roster case.round bytes x.content x.header × (is_asked case first number x.header ≡ true)
unfolding heard_of
heard-found case first number bytes x fits e =
    let a = bind_ok (fault_as (λ refusal. RefusedPost number refusal) (admission_of_bytes case.roster case.round bytes)) _ x e in
    let said : Said = record { header = a.0.0; content = a.0.1 } in
    let asked = guard_ok (not (is_asked case first number a.0.0)) (Slot number a.0.0.stage) said x a.2 in
    let says = says-found case.roster case.round bytes a.0 fits
    (fault_as_ok (λ refusal. RefusedPost number refusal) (admission_of_bytes case.roster case.round bytes) a.0 a.1) in
    subst (λ (x : Said). Says case.roster case.round bytes x.content x.header × (is_asked case first number x.header ≡ true)) asked.1
    (says, not-false (is_asked case first number a.0.0) asked.0)

pub heard-again : (case : Case) (first : Option Header) (number : ℕ) (bytes content : List ℕ) (header : Header)
    → Says case.roster case.round bytes content header → is_asked case first number header ≡ true
    → heard_of case first number bytes ≡ Ok (record { header = header; content = content })
unfolding heard_of
heard-again case first number bytes content header says asked = rw (says-again case.roster case.round bytes content header says, asked) refl

-- the same of what is asked of the claim's slot
abbrev asks : Claim → Case → Option Header → ℕ → Header → Bool
asks claim case first number header = is_slot_asked claim case (kind_of_stage (shape_of_roster case.roster) header.stage) first number
    header

pub asked-found : (case : Case) (claim : Claim) (first : Option Header) (number : ℕ) (header : Header) → case.claim ≡ claim
    → is_asked case first number header ≡ true → asks claim case first number header ≡ true
asked-found case claim first number header is asked = subst (λ (c : Claim). asks c case first number header ≡ true) is asked

pub asked-again : (case : Case) (claim : Claim) (first : Option Header) (number : ℕ) (header : Header) → case.claim ≡ claim
    → asks claim case first number header ≡ true → is_asked case first number header ≡ true
asked-again case claim first number header is asked = subst (λ (c : Claim). asks c case first number header ≡ true) (sym is) asked

pub plain-claim : (claim c : Claim) → claim ≡ c → is_of_bodies c ≡ false → is_of_bodies claim ≡ false
plain-claim claim c is e = ap is_of_bodies is ∙ e

-- ---- a post whose body is looked at

-- what is taken of a post for a claim that looks at bodies is a post of a content of the grammar
pub record TakenPost (case : Case) (first : Option Header) (number : ℕ) (bytes : List ℕ) (x : Said) : Type 0 where
  pub content : Content
  pub header_is : content.header ≡ x.header
  pub file : IsPostFile case.roster case.round bytes content
  pub reads : content_read (shape_of_roster case.roster) x.content ≡ Ok content
  pub asked : is_asked case first number x.header ≡ true
  pub kind : is_kind_asked case.claim first content.body ≡ true

abbrev header_ok : Header → Result Header Short
header_ok header = Ok header

pub taken-found : (case : Case) (first : Option Header) (number : ℕ) (bytes : List ℕ) (x : Said) → is_of_bodies case.claim ≡ true
    → IsBytes bytes
    → taken_of case first number bytes ≡ Ok x → TakenPost case first number bytes x
unfolding content_of
taken-found case first number bytes x bodies fits e =
    let heard = heard-found case first number bytes x fits (taken-heard case first number bytes x e) in
    let looked = taken-read case first number bytes x bodies e in
    let read = bind_ok (fault_as (λ offence. FailedBody number offence.at) (content_read (shape_of_roster case.roster) x.content)) _
    looked.0 looked.1 in
    let asked = guard_ok (not (is_kind_asked case.claim first read.0.body)) (Kind number (kind_number read.0.body)) read.0 looked.0 read.2
    in
    let found = fault_as_ok (λ offence. FailedBody number offence.at) (content_read (shape_of_roster case.roster) x.content) read.0 read.1
    in
    let header : header_ok read.0.header ≡ header_ok x.header = sym (content-header (shape_of_roster case.roster) x.content read.0 found)
    ∙ heard.0.admitted.reads in
    let same : read.0.header ≡ x.header = cc in
    record {
      content = read.0;
      header_is = same;
      file = record {
        text = x.content;
        says = subst (λ (h : Header). Says case.roster case.round bytes x.content h) (sym same) heard.0;
        reads = found;
      };
      reads = found;
      asked = heard.1;
      kind = not-false (is_kind_asked case.claim first read.0.body) asked.0;
    }

-- and such a post is taken
pub file-taken : (case : Case) (first : Option Header) (number : ℕ) (bytes : List ℕ) (content : Content)
    (file : IsPostFile case.roster case.round bytes content)
    → is_asked case first number content.header ≡ true → is_kind_asked case.claim first content.body ≡ true
    → taken_of case first number bytes ≡ Ok (record { header = content.header; content = file.text })
unfolding content_of
file-taken case first number bytes content file asked kind =
    taken-again case first number bytes (record { header = content.header; content = file.text }) content
    (heard-again case first number bytes file.text content.header file.says asked)
    (rw (file.reads, kind) refl)

-- a stage of a closing kind
pub closing-is : (o : Option StageKind) → IsSome (option_and_then vote_of o) → is_closing_stage o ≡ true
closing-is o e = some_of (option_and_then vote_of o) e
  where
    some_of : (o : Option StageKind) → IsSome o → is_some o ≡ true
    some_of (Some kind) e = refl
    some_of None e = absurd cc

-- two tests that pass
pub both-true : (x y : Bool) → x ≡ true → y ≡ true → (x && y) ≡ true
both-true true true e f = refl
both-true true false e f = absurd cc
both-true false y e f = absurd cc
