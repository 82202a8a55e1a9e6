use Rattle.std.proofs.Common.{◌≡◌, ℕ, ◌-◌, false, Option, ap, sym, ◌∙◌}
use Rattle.std.specs.Prelude.{◌≢◌, ◌==◌, ◌&&◌}
use Rattle.std.proofs.lemmas.Bool.{cond-false, eqb-true, false_from_ne_true}
use Rattle.phase_message.specs.declared.header.Header.{Header}
use Rattle.phase_message.specs.Shape.{Shape}
use Rattle.phase_message.specs.Slots.{slot_number}
use Rattle.phase_message.specs.Stages.{kind_of_stage}
use Rattle.group_roster.specs.Roster.{shape_of_roster}
use Rattle.transcript_form.specs.declared.claim.Claim.{Claim}
use Rattle.transcript_form.specs.declared.claim.Claim.TheVariants.{Pad}
use Rattle.transcript_form.specs.Claim.{claim_posts}
use Rattle.judge_core.specs.Checks.{is_asked, is_pad_stage, is_slot_asked}
use Rattle.judge_core.specs.Case.{Case, case_of}
use Rattle.judge_core.proofs.hearing.is_asked.Goals as goal

-- of the posts before the pad the claim asks for the slot of that number
pad-asked : (case : Case) (first : Option Header) (number slot posts : ℕ) (header : Header) → case.claim ≡ Pad
    → posts ≡ claim_posts (shape_of_roster case.roster) Pad → number ≢ posts
    → slot ≡ slot_number (shape_of_roster case.roster) header.stage header.sender → (slot == number - 1) ≡ is_asked case first number header
pad-asked case first number slot posts header is posts_are other slot_is =
    let shape : Shape = shape_of_roster case.roster in
    let last : ℕ = claim_posts shape Pad in
    let unlike : (number == last) ≡ false = false_from_ne_true (number == last) (λ e. other (eqb-true number last e ∙ sym posts_are)) in
    ap (λ (s : ℕ). s == number - 1) slot_is
    ∙ sym (cond-false (number == last) (header.sender == case.accused && is_pad_stage (kind_of_stage shape header.stage))
    (slot_number shape header.stage header.sender == number - 1) unlike)
    ∙ ap (λ (c : Claim). is_slot_asked c case (kind_of_stage shape header.stage) first number header) (sym is)

pub returns-else-number-posts : goal.returns-else-number-posts
returns-else-number-posts c =
    pad-asked (case_of c.args.case) c.args.first c.args.number c.slot_number.result c.posts.result c.args.header c.in-Pad-default.is-0
    (c.posts.ensures ∙ ap (λ (shape : Shape). claim_posts shape Pad) c.shape-shape.ensures) c.if-number-posts.false
    (c.slot_number.ensures ∙ ap (λ (shape : Shape). slot_number shape c.args.header.stage c.args.header.sender) c.shape-shape.ensures)
