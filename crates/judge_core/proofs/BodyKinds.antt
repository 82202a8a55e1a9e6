-- The kind of a content, by its byte, and the offences of bytes.
use Rattle.std.proofs.Common.{◌≡◌, ℕ, ◌<◌, true, false, List, ◌∷◌, length, get_or, Option, None, Result, Ok, Err, refl, ap, ◌∙◌, arith, length-append}
use Rattle.std.specs.Prelude.{IsOk, ◌==◌}
use Rattle.std.specs.Result.{result_err}
use Rattle.std.proofs.lemmas.List.{get_or-append_right}
use Rattle.wire_core.specs.Bytes.{IsBytes}
use Rattle.phase_message.specs.declared.content.Body.{Body}
use Rattle.phase_message.specs.declared.content.Body.TheVariants.{Keys, Submit, Shuffled, Abort, Go, Reveal, Dispute, Pads, Check, Confirm, Differ}
use Rattle.phase_message.specs.declared.content.Content.{Content}
use Rattle.phase_message.specs.declared.header.Header.{Header}
use Rattle.phase_message.specs.declared.offence.Offence.{Offence}
use Rattle.phase_message.specs.Grammar.{body_text, header_text, kind_number}
use Rattle.phase_message.specs.Offence.{content_read}
use Rattle.phase_message.specs.Shape.{Shape}
use Rattle.phase_message.proofs.Whole.{content-is_spelled, length-header_text}
use Rattle.group_roster.specs.Roster.{shape_of_roster}
use Rattle.judge_core.specs.declared.failed_check.FailedCheck.TheVariants.{Kind}
use Rattle.judge_core.specs.Checks.{content_of, is_kind_asked}
use Rattle.judge_core.specs.Case.{Case}
use Rattle.judge_core.specs.Pad.{is_reveal}

-- the byte of the kind stands behind the header
pub kind-byte : (shape : Shape) (bytes : List ℕ) (c : Content) → IsBytes bytes → content_read shape bytes ≡ Ok c → (75 < length bytes)
    × (get_or bytes 75 0 ≡ kind_number c.body)
kind-byte shape bytes c fits e =
    let found = content-is_spelled shape bytes c fits e in
    let head : List ℕ = header_text c.header in
    let rest : List ℕ = kind_number c.body ∷ body_text c.body in
    let long : length head ≡ 75 = length-header_text shape c.header found.1.0 in (
      omega (arith, long, ap length found.0, length-append head rest),
      ap (λ (b : List ℕ). get_or b 75 0) found.0
          ∙ get_or-append_right head rest 75 75 0 long (omega arith),
    )

-- bytes without an offence are read
pub no_offence : (read : Result Content Offence) → None ≡ result_err read → (c : Content) × (read ≡ Ok c)
no_offence (Ok c) e = (c, refl)
no_offence (Err offence) e = absurd cc

-- the two kinds of check 7, by their numbers
pub reveal-number : (body : Body) → (kind_number body == 6) ≡ is_reveal body
reveal-number (Keys keys) = refl
reveal-number (Submit ciphertext) = refl
reveal-number (Shuffled list) = refl
reveal-number Abort = refl
reveal-number (Go vote) = refl
reveal-number (Reveal votes seed) = refl
reveal-number (Dispute posts seed opening) = refl
reveal-number (Pads pads) = refl
reveal-number (Check vote) = refl
reveal-number (Confirm votes) = refl
reveal-number (Differ posts) = refl

-- what a look at a content comes to, by its body
pub look-kind : (case : Case) (first : Option Header) (number : ℕ) (bytes : List ℕ) (c : Content)
    → content_read (shape_of_roster case.roster) bytes ≡ Ok c → is_kind_asked case.claim first c.body ≡ false
    → content_of case first number bytes ≡ Err (Kind number (kind_number c.body))
unfolding content_of
look-kind case first number bytes c read other = rw (read, other) refl

pub look-passes : (case : Case) (first : Option Header) (number : ℕ) (bytes : List ℕ) (c : Content)
    → content_read (shape_of_roster case.roster) bytes ≡ Ok c → is_kind_asked case.claim first c.body ≡ true
    → IsOk (content_of case first number bytes)
unfolding content_of
look-passes case first number bytes c read asked = rw (read, asked) refl
