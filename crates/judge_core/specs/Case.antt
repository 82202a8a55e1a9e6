-- What a judge knows of a transcript and of its listed posts.
use Rattle.std.specs.Prelude.{ℕ, List, Option, Result}
use Rattle.phase_message.specs.declared.content.Content.{Content}
use Rattle.phase_message.specs.declared.header.Header.{Header}
use Rattle.phase_message.specs.declared.offence.Offence.{Offence}
use Rattle.phase_message.specs.Offence.{content_read}
use Rattle.phase_message.specs.Shape.{Shape}
use Rattle.group_roster.specs.Given.{roster_of}
use Rattle.group_roster.specs.Roster.{Roster, shape_of_roster}
use Rattle.transcript_form.specs.declared.accusation.Accusation.{Accusation}
use Rattle.transcript_form.specs.declared.claim.Claim.{Claim}
use Rattle.transcript_form.specs.declared.transcript.Transcript.{Transcript}
use Rattle.judge_core.specs.declared.hearing.Case.{Case as GivenCase}
use Rattle.judge_core.specs.declared.hearing.Said.{Said as GivenSaid}

-- what a judge knows before the first post: the roster, the claim, the accused, the round, and the accusation of a pad
pub record Case : Type 0 where
  pub roster : Roster
  pub claim : Claim
  pub accused : ℕ
  pub round : ℕ
  pub detail : Option Accusation

-- a listed post that passes the seven checks before its body and stands in a slot that the claim asks for: its header
-- and its content
pub record Said : Type 0 where
  pub header : Header
  pub content : List ℕ

-- the same of what the code holds
abbrev pub case_of : GivenCase → Case
case_of given = record {
  roster = roster_of given.roster.now;
  claim = given.claim;
  accused = given.accused;
  round = given.round;
  detail = given.detail;
}

abbrev pub said_of : GivenSaid → Said
said_of given = record { header = given.header; content = given.content.now }

-- the case of a transcript
abbrev pub case_of_transcript : Roster → Transcript → Case
case_of_transcript roster t =
    record { roster = roster; claim = t.claim; accused = t.accused; round = t.round; detail = t.detail }

-- the shape of the round
abbrev pub shape_in : Case → Shape
shape_in case = shape_of_roster case.roster

-- what a listed post is read as
abbrev pub read_of : Case → Said → Result Content Offence
read_of case said = content_read (shape_in case) said.content
