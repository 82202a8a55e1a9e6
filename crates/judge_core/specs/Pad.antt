-- The checks of a pad: the post of pads carries the view of the log that is listed, the log opens its last list, and the
-- accusation names the accused and holds.
use Rattle.std.specs.Prelude.{ℕ, ◌+◌, ◌*◌, List, [], ◌∷◌, map, take, replicate, Bool, true, false, is_some, bytes_eq, ◌==◌, option_map, if◌then◌else◌, Option, Some, None, Result}
use Rattle.std.specs.List.{list_all, slice_get}
use Rattle.wire_core.specs.Answers.{fault_unless, first_some, value_unless}
use Rattle.phase_message.specs.declared.content.Body.{Body}
use Rattle.phase_message.specs.declared.content.Body.TheVariants.{Reveal}
use Rattle.phase_message.specs.Shape.{Shape}
use Rattle.stage_log.specs.Log.{view_of}
use Rattle.transcript_form.specs.declared.accusation.Accusation.{Accusation}
use Rattle.accusation.specs.Accusation.{refusal_of}
use Rattle.shuffle_blame.specs.Replay.{body_of}
use Rattle.round_spec.specs.Slots.{bulk_place, by_member, descriptors_opened, final_stage, keys_said, list_said, pad_stage, pads_in, said_in, submit_stage}
use Rattle.judge_core.specs.declared.failed_check.FailedCheck.{FailedCheck}
use Rattle.judge_core.specs.declared.failed_check.FailedCheck.TheVariants.{View, NotOpened, OtherMember, Accusation as Refuted}
use Rattle.judge_core.specs.Case.{Case, Said, read_of, shape_in}

-- how many posts stand before the pads: five of each member
abbrev pub count_before_pads : Shape → ℕ
count_before_pads shape = 5 * shape.members

-- whether a body is a Reveal
abbrev pub is_reveal : Body → Bool
is_reveal (Reveal votes seed) = true
is_reveal body = false

-- check 15: the post of pads does not carry the view of what was said before it
abbrev pub view_failure : Shape → List (List ℕ) → Said → Option FailedCheck
view_failure shape past pad =
    fault_unless (bytes_eq pad.header.view (view_of shape past (pad_stage shape))) (View (count_before_pads shape + 1))

-- whether all members revealed their inner seeds of shuffle A
abbrev pub are_revealed : Shape → List (List ℕ) → Bool
are_revealed shape past = list_all is_reveal (by_member shape (said_in shape past (final_stage shape 1)))

-- check 16: a member did not reveal its inner seed of shuffle A, or the last turn said Abort
abbrev pub opening_failure : Shape → List (List ℕ) → Option FailedCheck
opening_failure shape past = first_some (
    fault_unless (are_revealed shape past) (NotOpened (final_stage shape 1))
    ∷ fault_unless (is_some (list_said shape past 1 shape.members)) (NotOpened (submit_stage shape 1 + shape.members))
    ∷ [])

-- the pads of a member for each slot: those of the accused, and of another member empty ones
abbrev pub row_of : Case → List (List ℕ) → ℕ → List (List ℕ)
row_of case pads member = if member == case.accused then pads else replicate (shape_in case).members []

-- those of all members
abbrev pub table_of : Case → List (List ℕ) → List (List (List ℕ))
table_of case pads = by_member (shape_in case) (row_of case pads)

-- check 17: there is no accusation, it names another member than the accused, or it does not hold
abbrev pub accusation_failure : Case → List (List ℕ) → List (List ℕ) → Option Accusation → Option FailedCheck
accusation_failure case past pads None = Some OtherMember
accusation_failure case past pads (Some a) = first_some (
    fault_unless (a.member == case.accused) OtherMember
    ∷ option_map (λ refusal. Refuted refusal)
    (refusal_of a (descriptors_opened (shape_in case) past) (table_of case pads) (keys_said (shape_in case) past bulk_place))
    ∷ [])

-- the pads that a post says
abbrev pub pads_row : Case → Said → List (List ℕ)
pads_row case pad = pads_in (body_of (read_of case pad))

-- the first of these checks that fails, of a log and a post of pads; where there is none, it carries no view
abbrev pub pad_failure_of : Case → List (List ℕ) → Option Said → Option FailedCheck
pad_failure_of case past None = Some (View (count_before_pads (shape_in case) + 1))
pad_failure_of case past (Some pad) = first_some (
    view_failure (shape_in case) past pad
    ∷ opening_failure (shape_in case) past
    ∷ accusation_failure case past (pads_row case pad) case.detail
    ∷ [])

-- the same of the listed posts: the log is the contents of all but the last
abbrev pub pad_failure : Case → List Said → Option FailedCheck
pad_failure case said =
    let count = count_before_pads (shape_in case) in
    pad_failure_of case (map (λ (one : Said). one.content) (take count said)) (slice_get said count)

-- what they come to
abbrev pub pad_answer : Case → List Said → Result (Unit {0}) FailedCheck
pad_answer case said = value_unless (pad_failure case said) (tt {0})
