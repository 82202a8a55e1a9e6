-- The first check that the bytes of a transcript fail.
use Rattle.std.specs.Prelude.{◌≡◌, ◌↔◌, ℕ, ◌+◌, ◌-◌, List, [], ◌∷◌, Bool, true, false, not, ◌&&◌, ◌==◌, is_some, bytes_eq, if◌then◌else◌, option_and_then, Option, Some, None, unwrap_or, Result, Ok, Err, is_ok, IsOk, IsTrue}
use Rattle.wire_core.specs.Bytes.{IsBytes}
use Rattle.wire_core.specs.Reading.{◌>>=◌, fault_as, unless}
use Rattle.wire_core.specs.Answers.{fault_unless, value_unless}
use Rattle.phase_message.specs.declared.content.Body.{Body}
use Rattle.phase_message.specs.declared.content.Content.{Content}
use Rattle.phase_message.specs.declared.header.Header.{Header}
use Rattle.phase_message.specs.declared.stage.StageKind.{StageKind}
use Rattle.phase_message.specs.declared.stage.StageKind.TheVariants.{Keys as AtKeys, Final as AtFinal, Pad as AtPad}
use Rattle.phase_message.specs.Grammar.{kind_number}
use Rattle.phase_message.specs.Offence.{content_read}
use Rattle.phase_message.specs.Shape.{Shape}
use Rattle.phase_message.specs.Slots.{slot_number}
use Rattle.phase_message.specs.Stages.{kind_of_stage, vote_of}
use Rattle.group_roster.specs.Roster.{Roster, IsRosterForm, shape_of_roster}
use Rattle.signed_post.specs.Admission.{admission_of_bytes}
use Rattle.round_spec.specs.Verdict.{is_dissent}
use Rattle.transcript_form.specs.declared.claim.Claim.{Claim}
use Rattle.transcript_form.specs.declared.claim.Claim.TheVariants.{Equivocation, Malformed, WrongSeed, BadLog, Replay, Pad}
use Rattle.transcript_form.specs.declared.transcript.Transcript.{Transcript}
use Rattle.transcript_form.specs.Claim.{claim_posts}
use Rattle.transcript_form.specs.Form.{transcript_read}
use Rattle.transcript_form.specs.Refusals.{Failure}
use Rattle.judge_core.specs.declared.failed_check.FailedCheck.{FailedCheck}
use Rattle.judge_core.specs.declared.failed_check.FailedCheck.TheVariants.{Form, Post, Slot, Body as FailedBody, Kind, Same, WellFormed, SeedFits, Justified}
use Rattle.judge_core.specs.declared.failed_check.Unjudged.{Unjudged}
use Rattle.judge_core.specs.declared.failed_check.Unjudged.TheVariants.{Failed, Memory}
use Rattle.judge_core.specs.declared.judging.Accepted.{Accepted}
use Rattle.conviction.specs.Accepts.{Accepts}
use Rattle.judge_core.specs.Failures.{failure_of_check}
use Rattle.judge_core.specs.Case.{Case, Said, case_of_transcript, shape_in}
use Rattle.judge_core.specs.Closing.{is_justified_in}
use Rattle.judge_core.specs.Pad.{is_reveal, pad_failure}
use Rattle.judge_core.specs.Replay.{replay_failure}
use Rattle.judge_core.specs.WrongSeed.{is_seed_of_key}

-- ---- check 5: the slot of a listed post

-- whether a stage is that of the keys
abbrev pub is_keys_stage : Option StageKind → Bool
is_keys_stage (Some AtKeys) = true
is_keys_stage _ = false

-- whether a stage is the last of a shuffle
abbrev pub is_final_stage : Option StageKind → Bool
is_final_stage (Some (AtFinal shuffle)) = true
is_final_stage _ = false

-- whether a stage is that of the pads
abbrev pub is_pad_stage : Option StageKind → Bool
is_pad_stage (Some AtPad) = true
is_pad_stage _ = false

-- whether a stage closes votes
abbrev pub is_closing_stage : Option StageKind → Bool
is_closing_stage kind = is_some (option_and_then vote_of kind)

-- whether a post is of the first one's stage, as the first itself is
abbrev pub is_of_one_stage : Option Header → Header → Bool
is_of_one_stage None header = true
is_of_one_stage (Some first) header = header.stage == first.stage

-- Whether a claim asks for a post of this header, by its number from 1, the header of the first one if that is
-- another, and the kind of its stage. All are of the accused but for those of a replay, which are of member 1, 2, ..,
-- and those before a pad, which stand in the slots in their order.
abbrev pub is_slot_asked : Claim → Case → Option StageKind → Option Header → ℕ → Header → Bool
is_slot_asked Equivocation case kind first number header = header.sender == case.accused && is_of_one_stage first header
is_slot_asked Malformed case kind first number header = header.sender == case.accused
is_slot_asked WrongSeed case kind None number header = header.sender == case.accused && is_keys_stage kind
is_slot_asked WrongSeed case kind (Some first) number header = header.sender == case.accused && is_final_stage kind
is_slot_asked BadLog case kind first number header = header.sender == case.accused && is_closing_stage kind
is_slot_asked Replay case kind first number header =
    header.sender == number && is_closing_stage kind && is_of_one_stage first header
is_slot_asked Pad case kind first number header =
    if number == claim_posts (shape_of_roster case.roster) Pad
    then header.sender == case.accused && is_pad_stage kind
    else slot_number (shape_of_roster case.roster) header.stage header.sender == number - 1

abbrev pub is_asked : Case → Option Header → ℕ → Header → Bool
is_asked case first number header =
    is_slot_asked case.claim case (kind_of_stage (shape_of_roster case.roster) header.stage) first number header

-- what is heard of a listed post, by its number from 1 and the header of the first one: it passes check 4 and check 5
unfoldable pub heard_of : Case → Option Header → ℕ → List ℕ → Result Said FailedCheck
heard_of case first number bytes = do
  post ← fault_as (λ refusal. Post number refusal) (admission_of_bytes case.roster case.round bytes)
  unless (not (is_asked case first number post.0)) (Slot number post.0.stage) (record { header = post.0; content = post.1 })

-- ---- checks 6 and 7: the body of a listed post

-- whether a claim looks at the bodies of listed posts, which is to find them of the grammar
abbrev pub is_of_bodies : Claim → Bool
is_of_bodies Equivocation = false
is_of_bodies Malformed = false
is_of_bodies claim = true

-- whether a claim asks for a body of this kind: in WrongSeed the second reveals, and in Replay each objects
abbrev pub is_kind_asked : Claim → Option Header → Body → Bool
is_kind_asked WrongSeed (Some first) body = is_reveal body
is_kind_asked Replay first body = is_dissent body
is_kind_asked claim first body = true

-- what a listed post says: its content is of the grammar, and its body of a kind that the claim asks for
unfoldable pub content_of : Case → Option Header → ℕ → List ℕ → Result Content FailedCheck
content_of case first number bytes = do
  content ← fault_as (λ offence. FailedBody number offence.at) (content_read (shape_of_roster case.roster) bytes)
  unless (not (is_kind_asked case.claim first content.body)) (Kind number (kind_number content.body)) content

-- what a look at a content found is what reading it gives, of which nothing is kept
abbrev pub Looks : Result (Unit {0}) FailedCheck → Result Content FailedCheck → Type 0
Looks (Ok passed) read = IsOk read
Looks (Err failed) read = read ≡ Err failed

-- what is taken of a listed post: it is heard, and where the claim looks at bodies it passes check 6 and check 7
unfoldable pub taken_of : Case → Option Header → ℕ → List ℕ → Result Said FailedCheck
taken_of case first number bytes = do
  said ← heard_of case first number bytes
  if is_of_bodies case.claim then (content_of case first number said.content >>= λ content. Ok said) else Ok said

-- what is taken of the listed posts, one after the other, from the one of this number on
unfoldable pub hearing_of : Case → Option Header → ℕ → List (List ℕ) → Result (List Said) FailedCheck
hearing_of case first number [] = Ok []
hearing_of case first number (post ∷ posts) = do
  said ← taken_of case first number post
  others ← hearing_of case (Some (unwrap_or first said.header)) (number + 1) posts
  Ok (said ∷ others)

-- ---- the claim's own checks

-- whether two posts say the same
abbrev pub is_one_content : List Said → Bool
is_one_content (first ∷ second ∷ []) = bytes_eq first.content second.content
is_one_content said = true

-- whether a post says a content of the grammar
abbrev pub is_well_formed : Shape → List Said → Bool
is_well_formed shape (only ∷ []) = is_ok (content_read shape only.content)
is_well_formed shape said = true

-- whether the seed that the second post reveals is that of the inner key in the first
abbrev pub is_seed_right : Shape → List Said → Bool
is_seed_right shape (keys ∷ final ∷ []) =
    is_seed_of_key (kind_of_stage shape final.header.stage) (content_read shape keys.content) (content_read shape final.content)
is_seed_right shape said = true

-- whether a listed closing post is justified
abbrev pub is_borne_out : Case → List Said → Bool
is_borne_out case (only ∷ []) = is_justified_in case only
is_borne_out case said = true

-- The first of a claim's own checks that fails: in Equivocation the contents are equal, in Malformed the content is of
-- the grammar, in WrongSeed the seed is the right one, and in BadLog the content is justified; a replay and a pad have
-- several
abbrev pub own_failure : Claim → Case → List Said → Option FailedCheck
own_failure Equivocation case said = fault_unless (not (is_one_content said)) Same
own_failure Malformed case said = fault_unless (not (is_well_formed (shape_in case) said)) WellFormed
own_failure WrongSeed case said = fault_unless (not (is_seed_right (shape_in case) said)) SeedFits
own_failure BadLog case said = fault_unless (not (is_borne_out case said)) Justified
own_failure Replay case said = replay_failure case said
own_failure Pad case said = pad_failure case said

-- what the listed posts come to
unfoldable pub conviction_of : Case → List (List ℕ) → Result (Unit {0}) FailedCheck
conviction_of case posts = do
  said ← hearing_of case None 1 posts
  value_unless (own_failure case.claim case said) (tt {0})

-- ---- the whole

-- what the bytes of a transcript come to: who is convicted of what, or the first check that fails
unfoldable pub judgement_of : Roster → List ℕ → Result Accepted FailedCheck
judgement_of roster bytes = do
  t ← fault_as (λ failed. Form failed) (transcript_read (shape_of_roster roster) bytes)
  convicts ← conviction_of (case_of_transcript roster t) t.posts
  Ok (record { accused = t.accused; claim = t.claim })

-- whether a claim makes a log of the posts that it lists or that these embed
abbrev pub is_of_logs : Claim → Bool
is_of_logs BadLog = true
is_of_logs Replay = true
is_of_logs Pad = true
is_of_logs claim = false

-- the claim's own checks want memory: the claim makes a log, and all posts are taken
abbrev pub WantsMemory : Case → List (List ℕ) → Type 0
WantsMemory case posts = IsTrue (is_of_logs case.claim) × IsOk (hearing_of case None 1 posts)

-- the same of the posts of the transcript that bytes spell
abbrev pub JudgingWantsMemory : Roster → List ℕ → Type 0
JudgingWantsMemory roster bytes =
    (t : Transcript) × (transcript_read (shape_of_roster roster) bytes ≡ Ok t) × WantsMemory (case_of_transcript roster t) t.posts

-- what the code found that keeps it from a conviction; out of memory is no failed check
abbrev pub failed_of : Unjudged → Option FailedCheck
failed_of (Failed failed) = Some failed
failed_of Memory = None

-- the same with the failed check in its three numbers, as it is printed
abbrev pub printed_judgement_of : Roster → List ℕ → Result Accepted Failure
printed_judgement_of roster bytes = fault_as failure_of_check (judgement_of roster bytes)

-- the judge accepts exactly what convicts
abbrev pub AcceptsExactly : Type 0
AcceptsExactly = (roster : Roster) (bytes : List ℕ) (accused : ℕ) (claim : Claim)
    → IsRosterForm roster → IsBytes bytes
    → (judgement_of roster bytes ≡ Ok (record { accused = accused; claim = claim })) ↔ Accepts roster bytes accused claim
