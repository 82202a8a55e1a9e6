-- What a closing post that is listed shows: whether it is justified, and what it embeds.
use Rattle.std.specs.Prelude.{◌≡◌, ℕ, List, [], Bool, false, IsOk, Option, Some, None, Result, Ok, Err}
use Rattle.phase_message.specs.declared.content.Body.{Body}
use Rattle.phase_message.specs.declared.content.Body.TheVariants.{Dispute}
use Rattle.phase_message.specs.declared.content.Content.{Content}
use Rattle.phase_message.specs.declared.offence.Offence.{Offence}
use Rattle.phase_message.specs.declared.post.Post.{Post}
use Rattle.phase_message.specs.Header.{header_of}
use Rattle.phase_message.specs.Closing.{ClosesVotes}
use Rattle.group_roster.specs.Roster.{Roster}
use Rattle.stage_log.specs.Log.{contents_of}
use Rattle.shuffle_blame.specs.declared.fault.Shown.{Shown}
use Rattle.round_spec.specs.Embedded.{BadPost, is_content_justified, posts_in_content}
use Rattle.judge_core.specs.Case.{Case, Said, read_of, shape_in}

-- whether what was read is justified as a closing content
abbrev pub is_read_justified : Roster → ℕ → Result Content Offence → Bool
is_read_justified roster round (Ok content) = is_content_justified roster round content
is_read_justified roster round (Err offence) = false

abbrev pub is_justified_in : Case → Said → Bool
is_justified_in case said = is_read_justified case.roster case.round (read_of case said)

-- the contents of posts that were found
abbrev pub contents_found : Result (List Post) BadPost → List (List ℕ)
contents_found (Ok posts) = contents_of posts
contents_found (Err bad) = []

-- the contents that are embedded in what was read
abbrev pub contents_embedded : Roster → ℕ → Result Content Offence → List (List ℕ)
contents_embedded roster round (Ok content) = contents_found (posts_in_content roster round content)
contents_embedded roster round (Err offence) = []

abbrev pub past_in : Case → Said → List (List ℕ)
past_in case said = contents_embedded case.roster case.round (read_of case said)

-- what a body shows of the outer layers: a Dispute the outer seed and the outer opening, and no other anything
abbrev pub shown_by : Body → Option Shown
shown_by (Dispute posts seed opening) = Some (record { outer_seed = seed; outer_opening = opening })
shown_by body = None

-- a listed post that was taken, of a closing stage
pub record IsClosingPost (case : Case) (said : Said) : Type 0 where
  pub grammar : IsOk (read_of case said)
  pub header : header_of said.content ≡ Ok said.header
  pub closing : ClosesVotes (shape_in case) said.header.stage
