-- What the closing posts of a replay show: each alone, and all together.
use Rattle.std.specs.Prelude.{◌≡◌, ℕ, ◌<◌, ◌^◌, List, [], ◌∷◌, All, length, true, false, IsTrue, option_to_list, Option, Some, None, Result, Ok, Err}
use Rattle.phase_message.specs.declared.content.Content.{Content}
use Rattle.phase_message.specs.declared.offence.Offence.{Offence}
use Rattle.phase_message.specs.declared.post.Post.{Post}
use Rattle.phase_message.specs.Shape.{Shape}
use Rattle.phase_message.specs.Slots.{slot_count, slots_before}
use Rattle.phase_message.specs.Stages.{kind_of_stage}
use Rattle.stage_log.specs.Log.{contents_of}
use Rattle.stage_log.specs.Table.{Log}
use Rattle.round_spec.specs.Verdict.{is_dissent}
use Rattle.judge_core.specs.declared.failed_check.FailedCheck.{FailedCheck}
use Rattle.judge_core.specs.declared.failed_check.FailedCheck.TheVariants.{NotJustified}
use Rattle.judge_core.specs.declared.failed_check.Unjudged.{Unjudged}
use Rattle.judge_core.specs.declared.hearing.Said.{Said as GivenSaid}
use Rattle.judge_core.specs.declared.replaying.Compared.{Compared}
use Rattle.judge_core.specs.declared.replaying.Shows.{Shows}
use Rattle.judge_core.specs.Case.{Case, Said, read_of, said_of, shape_in}
use Rattle.judge_core.specs.Checks.{failed_of}
use Rattle.judge_core.specs.Closing.{IsClosingPost, is_justified_in, past_in}
use Rattle.embedded_log.specs.Embedding.{places_of}
use Rattle.judge_core.specs.Replay.{parts_shown, unjustified_from, unlike_from}

-- ---- posts that dissent

-- what was read dissents
abbrev pub Dissents : Result Content Offence → Type 0
Dissents (Ok content) = IsTrue (is_dissent content.body)
Dissents (Err offence) = ⊥

-- a listed post of a closing stage that dissents
pub record IsObjection (case : Case) (stage : ℕ) (said : Said) : Type 0 where
  pub post : IsClosingPost case said
  pub dissents : Dissents (read_of case said)
  pub at : said.header.stage ≡ stage

-- such posts, all of one stage, whose contents are short
abbrev pub AreObjections : Case → ℕ → List GivenSaid → Type 0
AreObjections case stage given = All (λ one. IsObjection case stage (said_of one) × (length one.content.now < 2 ^ 32)) given

abbrev pub AreOfOneStage : Case → List GivenSaid → Type 0
AreOfOneStage case given = (stage : ℕ) × AreObjections case stage given

-- ---- what one shows

-- a log keeps the contents of a past in the slots before a stage, and nothing else
pub record KeepsPast (shape : Shape) (stage : ℕ) (past : List (List ℕ)) (log : Log) : Type 0 where
  pub posts : List Post
  pub contents : contents_of posts ≡ past
  pub long : length posts ≡ slots_before shape stage
  pub keeps : log ≡ record { shape = shape; posts = places_of 0 (slot_count shape) posts }

-- what a justified post shows: its log, and its part of the outer layers
pub record IsShown (case : Case) (said : Said) (shows : Shows) : Type 0 where
  pub justified : is_justified_in case said ≡ true
  pub stage : shows.stage ≡ said.header.stage
  pub keeps : KeepsPast (shape_in case) said.header.stage (past_in case said) shows.log
  pub told : option_to_list shows.shown ≡ parts_shown case (kind_of_stage (shape_in case) said.header.stage) (said ∷ [])

-- one that is not justified shows nothing
abbrev pub ShowsNothing : Case → ℕ → Said → Option FailedCheck → Type 0
ShowsNothing case number said None = Unit {0}
ShowsNothing case number said (Some failed) = (failed ≡ NotJustified number) × (is_justified_in case said ≡ false)

abbrev pub ShowsPost : Case → ℕ → Said → Result Shows Unjudged → Type 0
ShowsPost case number said (Ok shows) = IsShown case said shows
ShowsPost case number said (Err e) = ShowsNothing case number said (failed_of e)

-- ---- what all show

-- what the first post and the others show together: all others are justified, the first difference of their logs from
-- that of the first is found, and the parts of all are told
pub record IsCompared (case : Case) (first : Said) (others : List Said) (compared : Compared) : Type 0 where
  pub justified : unjustified_from case 2 others ≡ None
  pub difference : compared.difference ≡ unlike_from case (past_in case first) 2 others
  pub told : compared.told.items ≡ parts_shown case (kind_of_stage (shape_in case) first.header.stage) (first ∷ others)

-- or one of them is not justified
abbrev pub IsUnjustified : Case → List Said → Option FailedCheck → Type 0
IsUnjustified case others None = Unit {0}
IsUnjustified case others (Some failed) = unjustified_from case 2 others ≡ Some failed

abbrev pub Compares : Case → Said → List Said → Result Compared Unjudged → Type 0
Compares case first others (Ok compared) = IsCompared case first others compared
Compares case first others (Err e) = IsUnjustified case others (failed_of e)
