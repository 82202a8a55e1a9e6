-- What a post that is shown has passed.
use Rattle.std.proofs.Common.{◌≡◌, ◌⊎◌, inl, inr, ℕ, List, Result, Ok, Err, sym, subst, ◌∙◌}
use Rattle.wire_core.specs.declared.cursor.Short.{Short}
use Rattle.wire_core.specs.Bytes.{IsBytes}
use Rattle.wire_core.specs.Answers.{fault_as}
use Rattle.wire_core.proofs.AnswerLemmas.{bind_ok, fault_as_ok}
use Rattle.phase_message.specs.declared.content.Content.{Content}
use Rattle.phase_message.specs.declared.header.Header.{Header}
use Rattle.phase_message.specs.declared.offence.Offence.{Offence}
use Rattle.phase_message.specs.Offence.{content_read}
use Rattle.phase_message.proofs.Whole.{content-header}
use Rattle.group_roster.specs.Roster.{Roster}
use Rattle.signed_post.specs.declared.post.PostRefusal.TheVariants.{Memory, Body as BodyFault}
use Rattle.group_roster.specs.Roster.{shape_of_roster}
use Rattle.phase_message.specs.declared.post.Post.{Post}
use Rattle.signed_post.specs.Frame.{frame_of}
use Rattle.signed_post.specs.Admission.{admission_of, Admitted, check_of, IsPostFile}
use Rattle.signed_post.proofs.Admits.{admits_exactly}
use Rattle.signed_post.proofs.Frames.{framed-found, framed-bytes}

-- a post that passes is admitted with the header of its content
abbrev header_ok : Header → Result Header Short
header_ok header = Ok header

checked-found : (roster : Roster) (round : ℕ) (post : Post) (content : Content) → IsBytes post.signature
    → check_of roster round post ≡ Ok content
    → Admitted roster round post content.header × (content_read (shape_of_roster roster) post.content ≡ Ok content)
unfolding check_of
checked-found roster round post content bytes e =
    let a = bind_ok (admission_of roster round post) (λ header. fault_as (λ (o : Offence). BodyFault o.at o.rule)
    (content_read (shape_of_roster roster) post.content)) content e in
    let reads = fault_as_ok (λ (o : Offence). BodyFault o.at o.rule) (content_read (shape_of_roster roster) post.content) content a.2 in
    let admitted = (admits_exactly roster round post a.0 bytes).0 a.1 in
    let both : header_ok a.0 ≡ header_ok content.header = sym admitted.reads
    ∙ content-header (shape_of_roster roster) post.content content reads in
    let same : a.0 ≡ content.header = cc in
    (subst (λ (h : Header). Admitted roster round post h) same admitted, reads)

-- a file whose post passes
pub file-passes : (roster : Roster) (round : ℕ) (bytes : List ℕ) (post : Post) (content : Content) (X : Type 0) → IsBytes bytes
    → frame_of bytes ≡ Ok post → (Ok content ≡ check_of roster round post) ⊎ ((Ok content ≡ Err Memory) × X)
    → IsPostFile roster round bytes content
file-passes roster round bytes post content X fits frame (inl e) =
    let found = checked-found roster round post content (framed-bytes bytes post fits frame) (sym e) in
    record {
      text = post.content;
      says = record { signature = post.signature; spelled = (framed-found bytes post fits frame).1; admitted = found.0 };
      reads = found.1;
    }
file-passes roster round bytes post content X fits frame (inr (e, x)) = absurd (cc)
