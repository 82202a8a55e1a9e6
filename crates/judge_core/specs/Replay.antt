-- The checks of a replay: each closing post is justified, all embed one log, and the replay of it blames the accused.
use Rattle.std.specs.Prelude.{ℕ, ◌+◌, List, [], ◌∷◌, length, map, bytes_eq, ◌==◌, option_map, slice_index_or, if◌then◌else◌, Option, Some, None, Result}
use Rattle.wire_core.specs.Answers.{fault_unless, first_below, first_some, value_unless}
use Rattle.phase_message.specs.declared.stage.StageKind.{StageKind}
use Rattle.phase_message.specs.declared.stage.StageKind.TheVariants.{Final}
use Rattle.phase_message.specs.Stages.{kind_of_stage}
use Rattle.shuffle_blame.specs.declared.fault.Fault.{Fault}
use Rattle.shuffle_blame.specs.declared.fault.Shown.{Shown}
use Rattle.shuffle_blame.specs.Replay.{Inquiry, body_of, culprit_of}
use Rattle.round_spec.specs.Verdict.{shown_in}
use Rattle.judge_core.specs.declared.failed_check.FailedCheck.{FailedCheck}
use Rattle.judge_core.specs.declared.failed_check.FailedCheck.TheVariants.{NotJustified, LogsDiffer, Culprit}
use Rattle.judge_core.specs.Case.{Case, Said, read_of, shape_in}
use Rattle.judge_core.specs.Closing.{is_justified_in, past_in}

-- check 12: the first of the posts, from the one of this number on, that is not justified
abbrev pub unjustified_from : Case → ℕ → List Said → Option FailedCheck
unjustified_from case number [] = None
unjustified_from case number (said ∷ others) =
    if is_justified_in case said then unjustified_from case (number + 1) others else Some (NotJustified number)

-- the least place at which two lists of contents differ
unfoldable pub unlike_place : List (List ℕ) → List (List ℕ) → Option ℕ
unlike_place past other =
    first_below (length past) (λ place. fault_unless (bytes_eq (slice_index_or past place []) (slice_index_or other place [])) place)

-- check 13 of one post: the least slot in which it embeds another content than those of a past
abbrev pub unlike_log : Case → List (List ℕ) → ℕ → Said → Option FailedCheck
unlike_log case past number said = option_map (λ slot. LogsDiffer number slot) (unlike_place past (past_in case said))

-- that of the first of the posts, from the one of this number on
abbrev pub unlike_from : Case → List (List ℕ) → ℕ → List Said → Option FailedCheck
unlike_from case past number [] = None
unlike_from case past number (said ∷ others) =
    first_some (unlike_log case past number said ∷ unlike_from case past (number + 1) others ∷ [])

-- what a post shows of the outer layers
abbrev pub shown_of : Case → Said → Shown
shown_of case said = shown_in (body_of (read_of case said))

-- what posts of a stage of a kind show, in their order: at the end of a shuffle each shows its part, and elsewhere nobody
-- shows anything
abbrev pub parts_shown : Case → Option StageKind → List Said → List Shown
parts_shown case (Some (Final shuffle)) said = map (shown_of case) said
parts_shown case kind said = []

-- what is replayed: the log that the first post embeds, by what all of them show
abbrev pub inquiry_in : Case → Said → List Said → Inquiry
inquiry_in case first said = record {
  shape = shape_in case;
  past = past_in case first;
  stage = first.header.stage;
  round = case.round;
  shown = parts_shown case (kind_of_stage (shape_in case) first.header.stage) said;
}

-- check 14: the replay blames nobody, or another member than the accused
abbrev pub culprit_failure : ℕ → Option Fault → Option FailedCheck
culprit_failure accused None = Some (Culprit 0)
culprit_failure accused (Some fault) = fault_unless (fault.member == accused) (Culprit fault.member)

-- the first of these checks that fails; no posts convict nobody
abbrev pub replay_failure : Case → List Said → Option FailedCheck
replay_failure case [] = Some (Culprit 0)
replay_failure case (first ∷ others) =
    first_some (unjustified_from case 1 (first ∷ others)
    ∷ unlike_from case (past_in case first) 2 others
    ∷ culprit_failure case.accused (culprit_of (inquiry_in case first (first ∷ others)))
    ∷ [])

-- what they come to
abbrev pub replay_answer : Case → List Said → Result (Unit {0}) FailedCheck
replay_answer case said = value_unless (replay_failure case said) (tt {0})
