-- How many bytes the posts of a member's log have at most.
use Rattle.std.specs.Prelude.{◌≡◌, ◌≤◌, ◌+◌, ◌*◌, ◌==◌, ℕ, length, Option, Some, if◌then◌else◌}
use Rattle.phase_message.specs.declared.post.Post.{Post}
use Rattle.phase_message.specs.declared.post.TheConstants.{POST_LIMIT}
use Rattle.phase_message.specs.declared.stage.StageKind.{StageKind}
use Rattle.phase_message.specs.declared.stage.StageKind.TheVariants.{Final, Confirm}
use Rattle.phase_message.specs.Post.{post_spelling}
use Rattle.phase_message.specs.Shape.{Shape}
use Rattle.phase_message.specs.Stages.{kind_of_stage}
use Rattle.signed_post.specs.declared.post.TheConstants.{LONGEST_SIGNATURE}
use Rattle.stage_log.specs.Table.{Log, kept_in}

-- the most bytes of an own content at a stage of a kind: a closing one may embed all posts before it
abbrev pub own_limit : Option StageKind → ℕ
own_limit (Some (Final shuffle)) = if shuffle == 1 then 33 * POST_LIMIT else 209 * POST_LIMIT
own_limit (Some Confirm) = 89 * POST_LIMIT
own_limit kind = POST_LIMIT

-- the most bytes of a post in a slot of a member's log, as it is sent: of another the limit of posts, and of its own what
-- an own content may have, with its length and the longest signature
abbrev pub most_in : Shape → ℕ → ℕ → ℕ → ℕ
most_in shape number stage sender =
    if sender == number then own_limit (kind_of_stage shape stage) + (4 + LONGEST_SIGNATURE) else POST_LIMIT

-- each post that a member's log keeps has at most so many bytes
abbrev pub IsShortLog : ℕ → Log → Type 0
IsShortLog number log = (stage sender : ℕ) (post : Post) → kept_in log (record { stage = stage; sender = sender }) ≡ Some post →
    length (post_spelling post) ≤ most_in log.shape number stage sender
