-- How long an admitted post is.
use Rattle.std.specs.Prelude.{◌≡◌, ℕ, ◌+◌, ◌≤◌, length, ⊤, Some, Ok}
use Rattle.wire_core.specs.Bytes.{IsBytes}
use Rattle.phase_message.specs.declared.content.Content.{Content}
use Rattle.phase_message.specs.declared.header.Header.{Header}
use Rattle.phase_message.specs.declared.post.Post.{Post}
use Rattle.phase_message.specs.declared.stage.StageKind.{StageKind}
use Rattle.phase_message.specs.declared.stage.StageKind.TheVariants.{Go, Check}
use Rattle.phase_message.specs.Offence.{content_read}
use Rattle.phase_message.specs.Post.{post_spelling}
use Rattle.phase_message.specs.Stages.{kind_of_stage}
use Rattle.group_roster.specs.Roster.{Roster, shape_of_roster}
use Rattle.signed_post.specs.declared.post.TheConstants.{LONGEST_SIGNATURE}
use Rattle.signed_post.specs.Admission.{Admitted}

-- a stage of votes
abbrev pub IsVoteStage : StageKind → Type 0
IsVoteStage (Go shuffle) = ⊤
IsVoteStage Check = ⊤
IsVoteStage kind = ⊥

-- an admitted post has at most the four bytes of the length and the longest signature beside its content
abbrev pub PostsAreShort : Type 0
PostsAreShort = (roster : Roster) (round : ℕ) (post : Post) (header : Header) → Admitted roster round post header
    → length (post_spelling post) ≤ 4 + length post.content + LONGEST_SIGNATURE

-- an admitted post of a vote stage, whose content is of the grammar, has at most 9,405 bytes
abbrev pub VotesAreShort : Type 0
VotesAreShort = (roster : Roster) (round : ℕ) (post : Post) (header : Header) (kind : StageKind) (content : Content)
    → Admitted roster round post header → IsBytes post.content
    → kind_of_stage (shape_of_roster roster) header.stage ≡ Some kind → IsVoteStage kind
    → content_read (shape_of_roster roster) post.content ≡ Ok content
    → length (post_spelling post) ≤ 9405
