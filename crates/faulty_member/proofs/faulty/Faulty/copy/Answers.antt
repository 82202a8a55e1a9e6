use Rattle.std.proofs.Common.{◌≡◌, List, ℕ, Option, Some, ◌++◌, take, ap, sym, ◌∙◌}
use Rattle.phase_message.specs.declared.post.Post.{Post}
use Rattle.phase_message.specs.Shape.{Shape}
use Rattle.member_spec.specs.declared.conduct.Speech.TheVariants.{Say}
use Rattle.group_spec.specs.Alterations.{ciphertext_in, least_other, submission_kept}
use Rattle.group_spec.specs.Faulty.{says_copy}
use Rattle.faulty_member.proofs.Saying.{copied-text}
use Rattle.faulty_member.proofs.faulty.Faulty.copy.Goals as goal

pub returns-clause-told : goal.returns-clause-told
returns-clause-told c =
    let log = c.args.log.now in
    let bytes = c.args.bytes.items in
    let content = c.args.content.now in
    let kept : submission_kept log (least_other c.args.self.now.member) ≡ Some c.in-Some.post.now
    = ap (λ (m : ℕ). submission_kept log m) (sym c.least_other.ensures.value) ∙ sym c.in-Some.ensures.post in
    let written : c.deref.result.now ≡ ciphertext_in log.shape c.in-Some.post.now
    = c.deref.ensures.value ∙ c.items.ensures ∙ c.in_ok-ciphertext.ensures.value
    ∙ ap (λ (shape : Shape). ciphertext_in shape c.in-Some.post.now) c.shape.ensures.shape in
    ap (λ (t : List ℕ). Say t) (c.of-2.ensures ∙ c.in_ok-put_bytes.ensures.ok)
    ∙ ap (λ (t : List ℕ). Say (t ++ c.deref.result.now)) c.truncate.ensures.items
    ∙ ap (λ (t : List ℕ). Say (take 76 bytes ++ t)) written
    ∙ ap (λ (t : List ℕ). Say t) (copied-text log.shape bytes content (ciphertext_in log.shape c.in-Some.post.now) c.requires.spelled
    c.requires.grammar c.requires.submits)
    ∙ sym (ap (λ (p : Option Post). says_copy log.shape bytes content p) kept)
