-- When a post is admitted.
use Rattle.std.proofs.Common.{◌≡◌, ℕ, ◌+◌, Bool, true, false, cond, [], ◌∷◌, length, Option, Some, None, Result, Ok, Err, refl, ap, subst, ◌∙◌}
use Rattle.std.specs.Prelude.{bytes_eq, nat_le, ◌==◌}
use Rattle.std.proofs.lemmas.Bool.{leb-true, le-leb, eqb-true, eq-eqb}
use Rattle.std.proofs.lemmas.Slice.Eq.{bytes_eq-Decides}
use Rattle.wire_core.specs.declared.cursor.Short.{Short}
use Rattle.wire_core.specs.Bytes.{IsBytes}
use Rattle.wire_core.specs.Reading.{◌>>=◌, fault_as}
use Rattle.wire_core.proofs.Readings.{bind_ok, fault_as_ok}
use Rattle.phase_message.specs.declared.post.Post.{Post}
use Rattle.phase_message.specs.declared.post.TheConstants.{LEAST_CONTENT, POST_LIMIT}
use Rattle.phase_message.specs.declared.header.Header.{Header}
use Rattle.phase_message.specs.Header.{header_of}
use Rattle.phase_message.specs.Stages.{is_member, is_slot}
use Rattle.wire_core.proofs.AnswerLemmas.{first_some-none, first_some-none_parts}
use Rattle.lms_tree.specs.declared.keys.LmsPublic.{LmsPublic}
use Rattle.lms_tree.specs.declared.verifier.LmsRefusal.{LmsRefusal}
use Rattle.lms_tree.specs.Tree.{LmsValid, lms_check}
use Rattle.lms_tree.proofs.Validity.{valid_if_passed, passed_if_valid}
use Rattle.group_roster.specs.Roster.{Roster}
use Rattle.signed_post.specs.declared.post.PostRefusal.{PostRefusal}
use Rattle.signed_post.specs.declared.post.PostRefusal.TheVariants.{Frame, Version, Group, Round, Sender, Stage}
use Rattle.wire_core.specs.Answers.{fault_unless, value_unless}
use Rattle.group_roster.specs.Roster.{roster_id, key_of, shape_of_roster}
use Rattle.signed_post.specs.Frame.{FitsFrame, fits_frame}
use Rattle.signed_post.specs.Admission.{validity_refusal, signature_refusal, header_refusal, framed_admission_of, Admitted, AdmitsExactly}
use Rattle.wire_core.proofs.AnswerLemmas.{fault_unless-true, value_unless-ok, fault_unless-holds}
use Rattle.std.proofs.lemmas.Bool.{and_parts}

passed : (r : Result (Unit {0}) LmsRefusal) → validity_refusal r ≡ None → r ≡ Ok tt
passed (Ok u) e = refl
passed (Err refusal) e = absurd cc

signed : (sender : ℕ) (o : Option LmsPublic) (post : Post) → IsBytes post.signature → signature_refusal sender o post ≡ None
    → (key : LmsPublic) × (o ≡ Some key) × LmsValid key post.content post.signature
signed sender None post fits e = absurd cc
signed sender (Some key) post fits e =
    (key, refl, valid_if_passed key post.content post.signature fits (passed (lms_check key post.content post.signature) e))

unrefused : (sender : ℕ) (o : Option LmsPublic) (post : Post) (key : LmsPublic) → o ≡ Some key → LmsValid key post.content post.signature
    → signature_refusal sender o post ≡ None
unrefused sender o post key o-is valid =
    ap (λ (o : Option LmsPublic). signature_refusal sender o post) o-is
    ∙ ap validity_refusal (passed_if_valid key post.content post.signature valid)

-- a post in the frame that is not refused is admitted,
pub admit-found : (roster : Roster) (round : ℕ) (post : Post) (header : Header) → FitsFrame post → IsBytes post.signature
    → framed_admission_of roster round post ≡ Ok header → Admitted roster round post header
unfolding framed_admission_of
admit-found roster round post header fits bytes e =
    let b = bind_ok (fault_as (λ (short : Short). Frame 0) (header_of post.content))
    (λ header. value_unless (header_refusal roster round post header) header) header e in
    let parts = value_unless-ok (header_refusal roster round post b.0) b.0 header b.2 in
    let reads = fault_as_ok (λ (short : Short). Frame 0) (header_of post.content) b.0 b.1 in
    subst (λ (h : Header). Admitted roster round post h) parts.1 (admitted b.0 reads parts.0)
  where
    admitted : (h : Header) → header_of post.content ≡ Ok h → header_refusal roster round post h ≡ None → Admitted roster round post h
    admitted h reads none =
        let n : ℕ = length roster.keys in
        let o1 = fault_unless (h.version == 1) (Version h.version) in
        let o2 = fault_unless (bytes_eq h.group (roster_id roster)) (Group h.group) in
        let o3 = fault_unless (h.round == round) (Round h.round) in
        let o4 = fault_unless (is_member n h.sender) (Sender h.sender) in
        let o5 = fault_unless (is_slot (shape_of_roster roster) h.stage h.sender) (Stage h.stage) in
        let o6 = signature_refusal h.sender (key_of roster h.sender) post in
        let p1 = first_some-none_parts o1 (o2 ∷ o3 ∷ o4 ∷ o5 ∷ o6 ∷ []) none in
        let p2 = first_some-none_parts o2 (o3 ∷ o4 ∷ o5 ∷ o6 ∷ []) p1.1 in
        let p3 = first_some-none_parts o3 (o4 ∷ o5 ∷ o6 ∷ []) p2.1 in
        let p4 = first_some-none_parts o4 (o5 ∷ o6 ∷ []) p3.1 in
        let p5 = first_some-none_parts o5 (o6 ∷ []) p4.1 in
        let p6 = first_some-none_parts o6 [] p5.1 in
        record {
          frame = fits;
          reads = reads;
          version = eqb-true _ _ (fault_unless-holds (h.version == 1) (Version h.version) p1.0);
          group = (bytes_eq-Decides h.group (roster_id roster)).0
              (fault_unless-holds (bytes_eq h.group (roster_id roster)) (Group h.group) p2.0);
          this_round = eqb-true _ _ (fault_unless-holds (h.round == round) (Round h.round) p3.0);
          member = fault_unless-holds (is_member n h.sender) (Sender h.sender) p4.0;
          slot = fault_unless-holds (is_slot (shape_of_roster roster) h.stage h.sender) (Stage h.stage) p5.0;
          signed = signed h.sender (key_of roster h.sender) post bytes p6.0;
        }

-- and what is admitted is not refused
pub admit-again : (roster : Roster) (round : ℕ) (post : Post) (header : Header) → Admitted roster round post header
    → framed_admission_of roster round post ≡ Ok header
unfolding framed_admission_of
admit-again roster round post h a =
    let n : ℕ = length roster.keys in
    let o1 = fault_unless (h.version == 1) (Version h.version) in
    let o2 = fault_unless (bytes_eq h.group (roster_id roster)) (Group h.group) in
    let o3 = fault_unless (h.round == round) (Round h.round) in
    let o4 = fault_unless (is_member n h.sender) (Sender h.sender) in
    let o5 = fault_unless (is_slot (shape_of_roster roster) h.stage h.sender) (Stage h.stage) in
    let o6 = signature_refusal h.sender (key_of roster h.sender) post in
    let none : header_refusal roster round post h ≡ None =
    first_some-none o1 (o2 ∷ o3 ∷ o4 ∷ o5 ∷ o6 ∷ []) (fault_unless-true (h.version == 1) (Version h.version) (eq-eqb _ _ a.version))
    ∙ first_some-none o2 (o3 ∷ o4 ∷ o5 ∷ o6 ∷ []) (fault_unless-true (bytes_eq h.group (roster_id roster)) (Group h.group)
    ((bytes_eq-Decides h.group (roster_id roster)).1 a.group))
    ∙ first_some-none o3 (o4 ∷ o5 ∷ o6 ∷ []) (fault_unless-true (h.round == round) (Round h.round) (eq-eqb _ _ a.this_round))
    ∙ first_some-none o4 (o5 ∷ o6 ∷ []) (fault_unless-true (is_member n h.sender) (Sender h.sender) a.member)
    ∙ first_some-none o5 (o6 ∷ []) (fault_unless-true (is_slot (shape_of_roster roster) h.stage h.sender) (Stage h.stage) a.slot)
    ∙ first_some-none o6 [] (unrefused h.sender (key_of roster h.sender) post a.signed.0 a.signed.1 a.signed.2) in
    ap (λ (r : Result Header Short). fault_as (λ (short : Short). Frame 0) r >>= λ header. value_unless
    (header_refusal roster round post header) header) a.reads
    ∙ ap (λ (o : Option PostRefusal). value_unless o h) none

-- the test of a frame
fits-test : (post : Post) → fits_frame post ≡ true → FitsFrame post
fits-test post e =
    let p = and_parts (nat_le LEAST_CONTENT (length post.content)) (nat_le (4 + (length post.content + length post.signature)) POST_LIMIT) e
    in
    record { least = leb-true _ _ p.0; most = leb-true _ _ p.1 }

test-fits : (post : Post) → FitsFrame post → fits_frame post ≡ true
test-fits post f = rw (
  le-leb LEAST_CONTENT (length post.content) f.least,
  le-leb (4 + (length post.content + length post.signature))
      POST_LIMIT f.most,
) refl

first_way : (b : Bool) (x y : Result Header PostRefusal) (h : Header) → (y ≡ Ok h → ⊥) → cond b x y ≡ Ok h → (b ≡ true) × (x ≡ Ok h)
first_way true x y h never e = (refl, e)
first_way false x y h never e = absurd (never e)

pub admits_exactly : AdmitsExactly
admits_exactly roster round post header bytes = (
  λ ok.
      let way = first_way (fits_frame post) (framed_admission_of roster round post) (Err (Frame 0)) header (λ err. absurd cc) ok in
      admit-found roster round post header (fits-test post way.0) bytes way.1,
  λ admitted. rw (test-fits post admitted.frame) (admit-again roster round post header admitted),
)
