-- What is said where votes are closed.
use Rattle.std.specs.Prelude.{◌≡◌, ℕ, List, length, Some, Ok, IsSome, option_and_then}
use Rattle.phase_message.specs.declared.content.Body.{Body}
use Rattle.phase_message.specs.declared.content.Body.TheVariants.{Reveal, Dispute, Confirm as ConfirmBody, Differ}
use Rattle.phase_message.specs.declared.content.Content.{Content}
use Rattle.phase_message.specs.declared.stage.StageKind.{StageKind}
use Rattle.phase_message.specs.declared.stage.StageKind.TheVariants.{Final, Confirm}
use Rattle.phase_message.specs.Offence.{content_read}
use Rattle.phase_message.specs.Shape.{Shape}
use Rattle.phase_message.specs.Slots.{slots_before}
use Rattle.phase_message.specs.Stages.{kind_of_stage, vote_of}

-- a stage that closes votes: the end of a shuffle, or the stage behind the checks
abbrev pub ClosesVotes : Shape → ℕ → Type 0
ClosesVotes shape stage = IsSome (option_and_then vote_of (kind_of_stage shape stage))

-- at the end of a shuffle a Reveal or a Dispute, and behind the checks a Confirm or a Differ; the first embeds a post of
-- each member, and the second one of each slot before
abbrev pub IsClosingBody : Shape → ℕ → StageKind → Body → Type 0
IsClosingBody shape stage (Final shuffle) (Reveal votes seed) = length votes ≡ shape.members
IsClosingBody shape stage (Final shuffle) (Dispute posts seed opening) = length posts ≡ slots_before shape stage
IsClosingBody shape stage Confirm (ConfirmBody votes) = length votes ≡ shape.members
IsClosingBody shape stage Confirm (Differ posts) = length posts ≡ slots_before shape stage
IsClosingBody shape stage _ _ = ⊥

-- what is read at a closing stage is such a body, whatever the bytes are
abbrev pub ClosingsAreRead : Type 0
ClosingsAreRead = (shape : Shape) (bytes : List ℕ) (c : Content) (kind vote : StageKind) → content_read shape bytes ≡ Ok c →
    kind_of_stage shape c.header.stage ≡ Some kind → vote_of kind ≡ Some vote → IsClosingBody shape c.header.stage kind c.body
