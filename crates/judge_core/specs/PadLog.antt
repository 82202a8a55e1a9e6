-- What is known of the posts of a pad once they are taken, and what the code finds in them.
use Rattle.std.specs.Prelude.{◌≡◌, ℕ, ◌<◌, ◌^◌, List, All, length, map, true, false, Option, Some, None, Result, Ok, Err, IsOk, slice_index_or, [], ◌∷◌, ◌++◌}
use Rattle.std.specs.List.{AllByRecursion}
use Rattle.ring_encrypt.specs.PublicKey.{IsPublicKey}
use Rattle.phase_message.specs.declared.content.Body.{Body}
use Rattle.phase_message.specs.declared.content.Body.TheVariants.{Keys, Pads}
use Rattle.phase_message.specs.declared.stage.StageKind.TheVariants.{Pad as AtPad}
use Rattle.phase_message.specs.Header.{header_of}
use Rattle.phase_message.specs.Offence.{content_read}
use Rattle.phase_message.specs.Shape.{Shape}
use Rattle.phase_message.specs.Slots.{slot_number}
use Rattle.phase_message.specs.Stages.{kind_of_stage}
use Rattle.round_spec.specs.Slots.{list_said, seed_in, seeds_revealed}
use Rattle.judge_core.specs.declared.failed_check.FailedCheck.{FailedCheck}
use Rattle.judge_core.specs.declared.failed_check.Unjudged.{Unjudged}
use Rattle.judge_core.specs.declared.hearing.Said.{Said as GivenSaid}
use Rattle.judge_core.specs.declared.pad.Revealed.{Revealed}
use Rattle.judge_core.specs.Case.{Case, shape_in}
use Rattle.judge_core.specs.Checks.{failed_of}
use Rattle.judge_core.specs.Pad.{are_revealed, count_before_pads, is_reveal, opening_failure}

-- ---- the posts that are taken

-- what was said in listed posts
abbrev pub contents_said : List GivenSaid → List (List ℕ)
contents_said given = map (λ one. one.content.now) given

-- a short content of the grammar that begins with its header
pub record IsReadable (shape : Shape) (one : GivenSaid) : Type 0 where
  pub grammar : IsOk (content_read shape one.content.now)
  pub short : length one.content.now < 2 ^ 32
  pub header : header_of one.content.now ≡ Ok one.header

-- a post that stands in the slot of a number
pub record StandsAt (shape : Shape) (number : ℕ) (one : GivenSaid) : Type 0 where
  pub readable : IsReadable shape one
  pub there : slot_number shape one.header.stage one.header.sender ≡ number

-- the posts of all slots before the pads, in their order
pub record IsListedLog (shape : Shape) (log : List GivenSaid) : Type 0 where
  pub whole : length log ≡ count_before_pads shape
  pub stand : (place : ℕ) (d : GivenSaid) → place < length log → StandsAt shape place (slice_index_or log place d)

-- a post of pads
pub record IsPadsPost (case : Case) (one : GivenSaid) : Type 0 where
  pub readable : IsReadable (shape_in case) one
  pub at : kind_of_stage (shape_in case) one.header.stage ≡ Some AtPad

-- a log, and behind it a post of pads
pub record ArePadPosts (case : Case) (said : List GivenSaid) : Type 0 where
  pub log : List GivenSaid
  pub pads : GivenSaid
  pub all : said ≡ log ++ pads ∷ []
  pub is_log : IsListedLog (shape_in case) log
  pub is_pads : IsPadsPost case pads

-- ---- what is found

-- five keys
abbrev pub AreFiveKeys : Body → Type 0
AreFiveKeys body = (keys : List (List ℕ)) × (body ≡ Keys keys) × AllByRecursion IsPublicKey keys × (length keys ≡ 5)

-- pads
abbrev pub ArePads : Body → Type 0
ArePads body = (pads : List (List ℕ)) × (body ≡ Pads pads)

-- the entries of a list: short ones, and one for each member
abbrev pub AreEntries : Shape → List (List ℕ) → Type 0
AreEntries shape list = All (λ entry. length entry < 2 ^ 32) list × (length list ≡ shape.members)

-- the inner seed that a body reveals, or that it is no Reveal
abbrev pub TellsSeed : Body → Option (List ℕ) → Type 0
TellsSeed body None = is_reveal body ≡ false
TellsSeed body (Some seed) = (is_reveal body ≡ true) × (seed ≡ seed_in body)

-- the inner seeds that all members revealed, or that one of them did not
abbrev pub TellsSeeds : Shape → List (List ℕ) → Option (List (List ℕ)) → Type 0
TellsSeeds shape past None = are_revealed shape past ≡ false
TellsSeeds shape past (Some seeds) = (are_revealed shape past ≡ true) × (seeds ≡ seeds_revealed shape past 1)

-- what a log reveals that opens its last list
pub record IsRevealed (shape : Shape) (past : List (List ℕ)) (revealed : Revealed) : Type 0 where
  pub opens : opening_failure shape past ≡ None
  pub seeds : revealed.seeds ≡ seeds_revealed shape past 1
  pub list : list_said shape past 1 shape.members ≡ Some revealed.list
  pub entries : AreEntries shape revealed.list

-- or why it does not
abbrev pub IsUnopened : Shape → List (List ℕ) → Option FailedCheck → Type 0
IsUnopened shape past None = Unit {0}
IsUnopened shape past (Some failed) = opening_failure shape past ≡ Some failed

abbrev pub Reveals : Shape → List (List ℕ) → Result Revealed Unjudged → Type 0
Reveals shape past (Ok revealed) = IsRevealed shape past revealed
Reveals shape past (Err e) = IsUnopened shape past (failed_of e)
